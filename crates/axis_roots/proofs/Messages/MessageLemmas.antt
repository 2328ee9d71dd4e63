-- Samples made from the leaves of a line, and along an axis of a grid.
use Rattle.std.proofs.Common.{◌≡◌, ◌∙◌, ℕ, ◌*◌, ◌^◌, ◌<◌, List, length, get_or, true, refl, sym, ap, subst, arith, IsTrue}
use Rattle.std.specs.Prelude.{Option, Some}
use Rattle.namespace_id.specs.declared.cells.Cell.{Cell}
use Rattle.namespace_id.specs.declared.cells.Axis.{Axis}
use Rattle.namespace_id.specs.declared.shares.Share.{Share}
use Rattle.namespace_id.specs.declared.digests.Digest.{Digest}
use Rattle.namespace_id.specs.Cells.{is_width, is_in_square, leaf_namespace}
use Rattle.nmt_tree.specs.Digests.{leaf_digest}
use Rattle.nmt_tree.specs.Roots.{halvings}
use Rattle.namespace_id.specs.declared.namespaces.Namespace.{Namespace}
use Rattle.namespace_id.specs.Digests.{no_digest}
use Rattle.namespace_id.specs.Names.{parity}
use Rattle.namespace_id.specs.Shares.{AreShares}
use Rattle.namespace_id.proofs.PowerLemmas.{double_halvings}
use Rattle.nmt_tree.specs.Levels.{span, HasOrderedJoins}
use Rattle.nmt_tree.proofs.SpanLemmas.{leaf_digests-at, root_is_span}
use Rattle.nmt_tree.proofs.JoinLemmas.{joins_ordered}
use Rattle.nmt_proofs.specs.Parts.{given, leaf}
use Rattle.nmt_proofs.specs.Openings.{Opens, one_leaf}
use Rattle.nmt_proofs.specs.Making.{leaf_nodes, OpensLeaf}
use Rattle.nmt_proofs.proofs.Agreement.MadeLemmas.{one_opens}
use Rattle.axis_roots.specs.declared.message.messages.Message.{Message}
use Rattle.axis_roots.specs.Messages.{IsMessage, position, index, shown_by}
use Rattle.axis_roots.specs.Openings.{OpensAt}
use Rattle.axis_roots.specs.Grids.{IsGrid, share_at, axis_shares, axis_root, is_ordered_axis, leaf_over}
use Rattle.axis_roots.specs.Lines.{blank, entry, cell_on, line_names, is_ordered_line, line_root}
use Rattle.axis_roots.specs.Trees.{axis_leaves, line_leaves, line_message, message_at}
use Rattle.axis_roots.proofs.Grids.NumberLemmas.{position-lt, index-lt}
use Rattle.axis_roots.proofs.Grids.AxisLemmas.{get_or-along, length-along, position-cell_on, cell_on-own}
use Rattle.axis_roots.proofs.Grids.RootingLemmas.{root-leaves}
use Rattle.axis_roots.proofs.Grids.LineLemmas.{axis_leaves-cells, length-line_names, get_or-line_names, line_names-are}
use Rattle.axis_roots.proofs.Grids.WrittenLemmas.{on_axis_in_square}
use Rattle.axis_roots.proofs.Grids.StoredLemmas.{axis_shares-are}
use Rattle.axis_roots.proofs.Messages.SizeLemmas.{sizes-line_message}

-- the leaf at the place of a cell on its axis
own_leaf : (k : ℕ) (shares : List Share) (axis : Axis) (cell : Cell) (share : Share) → IsTrue (is_in_square k cell) → share ≡ share_at (2 * k) shares cell
    → leaf_digest (leaf_namespace k cell share) share ≡ get_or (axis_leaves k shares axis (index axis cell)) (position axis cell) no_digest
own_leaf k shares axis cell share within at =
    ap (λ (s : Share). leaf_digest (leaf_namespace k cell s) s) at
    ∙ ap (leaf_over k shares) (sym (cell_on-own axis cell))
    ∙ sym (ap (λ (leaves : List Digest). get_or leaves (position axis cell) no_digest) (axis_leaves-cells k shares axis (index axis cell))
    ∙ get_or-along k (leaf_over k shares) axis (index axis cell) (position axis cell) no_digest (position-lt k axis cell within))

-- nodes that open the leaf at the place of a sample's cell
pub opens_made : (k n i pos : ℕ) (shares : List Share) (m : Message) (leaves : Option (List Digest)) → IsTrue (is_width k) → IsTrue (is_in_square k m.cell) → IsMessage m
    → m.share ≡ share_at (2 * k) shares m.cell → n ≡ 2 * k → i ≡ index m.axis m.cell → pos ≡ position m.axis m.cell
    → leaves ≡ Some (axis_leaves k shares m.axis i)
    → ((made : List Digest) → leaves ≡ Some made → OpensLeaf n made pos m.path)
    → OpensAt k m (axis_root k shares m.axis (index m.axis m.cell))
opens_made k n i pos shares m leaves width within sized at count of_axis on_axis is opens = record {
  width = width;
  inside = within;
  sized = sized;
  opened =
      let line : List Digest = axis_leaves k shares m.axis (index m.axis m.cell) in
      let there : leaves ≡ Some line = is ∙ ap (λ (j : ℕ). Some (axis_leaves k shares m.axis j)) of_axis in
      let made : OpensLeaf (2 * k) line (position m.axis m.cell) m.path =
      subst (λ (x : ℕ). OpensLeaf x line (position m.axis m.cell) m.path) count (subst (λ (x : ℕ). OpensLeaf n line x m.path) on_axis (opens line there)) in
      subst (Opens (halvings (2 * k)) (shown_by k m) m.path) (root-leaves k shares m.axis (index m.axis m.cell) width)
      (made (leaf_namespace k m.cell m.share) m.share (own_leaf k shares m.axis m.cell m.share within at));
}

-- ---- lines

-- the leaf at a position of a line
line_leaf : (k : ℕ) (axis : Axis) (i pos : ℕ) (line : List Share) → length line ≡ 2 * k → pos < 2 * k
    → get_or (line_leaves k axis i line) pos no_digest ≡ leaf_digest (leaf_namespace k (cell_on axis i pos) (entry line pos)) (entry line pos)
line_leaf k axis i pos line long hp =
    let named : length (line_names k axis i line) ≡ 2 * k = length-line_names k axis i line in
    leaf_digests-at (line_names k axis i line) line pos parity blank (named ∙ sym long) (omega (arith, named))
    ∙ ap (λ (name : Namespace). leaf_digest name (entry line pos)) (get_or-line_names k axis i line pos parity hp)

-- the root of a line is the digest over its leaves
line_root-span : (k : ℕ) (axis : Axis) (i : ℕ) (line : List Share) → IsTrue (is_width k) → length line ≡ 2 * k
    → line_root k axis i line ≡ span (line_leaves k axis i line) 0 (halvings (2 * k))
unfolding line_root
line_root-span k axis i line width long =
    root_is_span (halvings (2 * k)) (line_names k axis i line) line (length-line_names k axis i line ∙ sym (double_halvings k width)) (long ∙ sym (double_halvings k width))

-- every join over the leaves of an ordered line is ordered
line_joins_ordered : (k : ℕ) (axis : Axis) (i : ℕ) (line : List Share) → IsTrue (is_width k) → length line ≡ 2 * k → AreShares line
    → is_ordered_line k axis i line ≡ true → HasOrderedJoins (line_leaves k axis i line) 0 (halvings (2 * k))
line_joins_ordered k axis i line width long are ordered =
    let named : length (line_names k axis i line) ≡ 2 * k = length-line_names k axis i line in
    joins_ordered (halvings (2 * k)) 0 (line_names k axis i line) line (line_names-are k axis i line are) (long ∙ sym named) ordered
    (omega (arith, named, double_halvings k width))

-- the sample of a position of an ordered line opens
pub line_opens : (k : ℕ) (axis : Axis) (i pos : ℕ) (line : List Share) → is_width k ≡ true → i < 2 * k → pos < 2 * k → length line ≡ 2 * k
    → AreShares line → is_ordered_line k axis i line ≡ true → OpensAt k (line_message k axis i line pos) (line_root k axis i line)
line_opens k axis i pos line width hi hp long are ordered = record {
  width = width;
  inside = on_axis_in_square k axis i pos hi hp;
  sized = sizes-line_message k axis i pos line width hi hp long are;
  opened =
      let m : Message = line_message k axis i line pos in
      let leaves : List Digest = line_leaves k axis i line in
      let below : pos < 2 ^ halvings (2 * k) = omega (arith, double_halvings k width) in
      let name : Namespace = leaf_namespace k (cell_on axis i pos) (entry line pos) in
      subst (λ (p : ℕ). Opens (halvings (2 * k)) (one_leaf p name (entry line pos)) m.path (line_root k axis i line)) (sym (position-cell_on axis i pos))
      (subst (Opens (halvings (2 * k)) (one_leaf pos name (entry line pos)) m.path) (sym (line_root-span k axis i line width long))
      (one_opens (halvings (2 * k)) pos leaves m.path (leaf name (entry line pos)) (given (get_or leaves pos no_digest)) below
      (sym (line_leaf k axis i pos line long hp)) refl (line_joins_ordered k axis i line width long are ordered) refl));
}

-- ---- grids

-- the sample of a cell of a grid is that of its position on its axis
message-line : (k : ℕ) (shares : List Share) (cell : Cell) (axis : Axis) → is_in_square k cell ≡ true
    → message_at k shares cell axis ≡ line_message k axis (index axis cell) (axis_shares k shares axis (index axis cell)) (position axis cell)
message-line k shares cell axis within =
    let share : share_at (2 * k) shares cell ≡ entry (axis_shares k shares axis (index axis cell)) (position axis cell) =
    ap (share_at (2 * k) shares) (sym (cell_on-own axis cell))
    ∙ sym (get_or-along k (share_at (2 * k) shares) axis (index axis cell) (position axis cell) blank (position-lt k axis cell within)) in
    λ j. record {
      cell = sym (cell_on-own axis cell) j;
      axis = axis;
      share = share j;
      path = leaf_nodes (2 * k) (axis_leaves k shares axis (index axis cell)) (position axis cell);
    }

-- the sample of a cell of a grid opens, where the axis is ordered
pub message_opens : (k : ℕ) (shares : List Share) (cell : Cell) (axis : Axis) → IsGrid (record { k = k; shares = shares }) → AreShares shares
    → is_in_square k cell ≡ true → is_ordered_axis k shares axis (index axis cell) ≡ true
    → OpensAt k (message_at k shares cell axis) (axis_root k shares axis (index axis cell))
message_opens k shares cell axis grid are within ordered =
    subst (λ (m : Message). OpensAt k m (axis_root k shares axis (index axis cell))) (sym (message-line k shares cell axis within))
    (line_opens k axis (index axis cell) (position axis cell) (axis_shares k shares axis (index axis cell)) grid.width (index-lt k axis cell within)
    (position-lt k axis cell within) (length-along k (share_at (2 * k) shares) axis (index axis cell)) (axis_shares-are k shares axis (index axis cell) are) ordered)
