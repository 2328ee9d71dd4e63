-- Two proved samples of one cell along one axis that show different shares: the collision that they name.
use Rattle.std.proofs.Common.{◌≡◌, ◌∙◌, ◌≢◌, ℕ, ◌*◌, List, refl, sym, ap, ap₂}
use Rattle.std.specs.Prelude.{Some}
use Rattle.std.specs.List.{Contains}
use Rattle.std.proofs.lemmas.Slice.Eq.{bytes_eq-Decides}
use Rattle.namespace_id.specs.declared.cells.Cell.{Cell}
use Rattle.namespace_id.specs.declared.cells.Axis.{Axis}
use Rattle.namespace_id.specs.declared.digests.Digest.{Digest}
use Rattle.namespace_id.proofs.ShareLemmas.{name_of-is}
use Rattle.nmt_tree.specs.Roots.{halvings}
use Rattle.nmt_proofs.specs.Parts.{digest_of}
use Rattle.nmt_proofs.specs.Clashes.{clash_at, IsOpening}
use Rattle.nmt_proofs.proofs.Agreement.AgreeLemmas.{found_is_clash}
use Rattle.nmt_proofs.proofs.Parts.ShownLemmas.{opening-sized}
use Rattle.data_header.specs.Headers.{Roots, root_of}
use Rattle.axis_roots.specs.declared.message.messages.Message.{Message}
use Rattle.axis_roots.specs.Messages.{index, shown_by, root_for}
use Rattle.axis_roots.specs.Openings.{IsProved}
use Rattle.axis_roots.specs.Own.{opened_by}
use Rattle.axis_roots.proofs.Grids.NumberLemmas.{index-lt}
use Rattle.repair_queue.specs.Verdicts.{of_message, IsFoundClash}

-- ---- one sample

module _ (header : Roots) (m : Message) (proved : IsProved header m) where
  -- they open the root
  pub opening_root : digest_of (opened_by header.k m) ≡ root_for header m
  opening_root =
      let made : Digest = digest_of (opened_by header.k m) in
      ap (λ (bytes : List ℕ). record { 0 = bytes }) ((bytes_eq-Decides made.0 (root_for header m).0).0 proved.opened.value)

  -- all strings of the tree that it opens have their lengths
  opening_sizes : IsOpening (halvings (2 * header.k)) (shown_by header.k m) m.path
  opening_sizes = record {
    count = proved.opened.count;
    parts = ((refl, name_of-is header.k m.cell m.share proved.sized.share, proved.sized.share), tt);
    node_bytes = proved.sized.nodes;
  }

-- ---- two samples

-- proved samples of one cell, along one axis, with different shares
pub record AreBeside (header : Roots) (m n : Message) : Type 0 where
  pub first : IsProved header m
  pub second : IsProved header n
  pub axis_is : n.axis ≡ m.axis
  pub cell_is : n.cell ≡ m.cell
  pub apart : n.share ≢ m.share

module _ (header : Roots) (m n : Message) (are : AreBeside header m n) where
  -- both open one root
  same_root : digest_of (opened_by header.k m) ≡ digest_of (opened_by header.k n)
  same_root =
      opening_root header m are.first
      ∙ ap₂ (λ (axis : Axis) (cell : Cell). root_of header axis (index axis cell)) (sym are.axis_is) (sym are.cell_is)
      ∙ sym (opening_root header n are.second)

  -- what two members of a list name is a collision that is found
  pub two_messages : (ms : List Message) (left right : List ℕ) → Contains ms m → Contains ms n
      → clash_at (opened_by header.k m) (opened_by header.k n) ≡ Some (left, right) → IsFoundClash header ms left right
  two_messages ms left right m_at n_at found = record {
    is_clash = found_is_clash (opened_by header.k m) (opened_by header.k n) left right
        (opening-sized (halvings (2 * header.k)) (shown_by header.k m) m.path (opening_sizes header m are.first))
        (opening-sized (halvings (2 * header.k)) (shown_by header.k n) n.path (opening_sizes header n are.second)) same_root found;
    axis = m.axis;
    i = index m.axis m.cell;
    within = index-lt header.k m.axis m.cell are.first.inside;
    one = opened_by header.k m;
    other = opened_by header.k n;
    one_known = of_message m m_at are.first refl refl;
    other_known = of_message n n_at are.second are.axis_is (ap (index m.axis) are.cell_is);
    found = found;
  }
