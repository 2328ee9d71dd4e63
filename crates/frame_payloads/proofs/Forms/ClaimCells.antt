-- A cell of a claim with a set that is read is the one that was written, and one that was written is read.
use Rattle.std.proofs.Common.{◌≡◌, ◌∙◌, ℕ, ◌^◌, ◌<◌, Bool, true, eqb, ◌&&◌, ◌≤◌, List, [], ◌∷◌, length, refl, ap, arith, eq-eqb}
use Rattle.std.specs.List.{AllByRecursion, list_all}
use Rattle.std.proofs.lemmas.Bool.{and_parts, and_from}
use Rattle.namespace_id.specs.declared.cells.Axis.{Axis}
use Rattle.namespace_id.specs.declared.cells.Cell.{Cell}
use Rattle.namespace_id.specs.declared.digests.Digest.{Digest}
use Rattle.axis_roots.specs.declared.message.messages.Message.{Message}
use Rattle.axis_roots.specs.Messages.{IsMessage, position, index}
use Rattle.axis_roots.specs.Lines.{cell_on}
use Rattle.axis_roots.specs.Sets.{is_one_axis, is_along}
use Rattle.axis_roots.proofs.Grids.AxisLemmas.{index-cell_on, position-cell_on}
use Rattle.namespace_id.specs.Cells.{IsCell}
use Rattle.frame_payloads.specs.kinds.Fraud.{cell_payload, tag_at, cell_path_at, set_cell_at}
use Rattle.frame_payloads.proofs.Fields.Texts.{IsField}
use Rattle.frame_payloads.proofs.Fields.Fields.{Fields, AreMaps, ◌▸◌, then_field, one, made_field}
use Rattle.frame_payloads.proofs.Fields.Bases.{number16, share512}
use Rattle.namespace_id.specs.Digests.{AreDigests}
use Rattle.namespace_id.specs.Sizes.{most_depth}
use Rattle.std.specs.Prelude.{⊤}
use Rattle.frame_payloads.proofs.Forms.CellParts.{tag_byte, tag_takes, tag_again, path_text, is_path, cell_path_takes, cell_path_again, on_cell, position-bytes, cell_there}

-- ---- the cell

-- whether a sample is of a cell on this axis, and has no path where the set shows it
abbrev pub is_at : Axis → ℕ → Message → Bool
is_at axis i m = eqb (index axis m.cell) i && is_path (is_along axis m) m.path

-- a sample that can be written in a claim with a set
abbrev pub IsSetCell : Axis → ℕ → Message → Type 0
IsSetCell axis i m = IsMessage m × (is_at axis i m ≡ true)

-- the tag of a cell is a field
abbrev tag : Axis → Fields (Message × List ℕ) Axis
tag axis = one (tag_at axis) (λ found. tag_byte axis found ∷ []) (λ found. ⊤) (λ bytes found rest fits e. (tag_takes axis bytes found rest fits e, tt)) (λ found rest is few. tag_again axis found rest)

-- so is its path
abbrev cell_path : Bool → Fields (Message × List ℕ) (List Digest)
cell_path along = one (cell_path_at along) (path_text along) (λ path. (length path ≤ most_depth) × AreDigests path × (is_path along path ≡ true))
    (λ bytes path rest fits e. let t = cell_path_takes along bytes path rest fits e in (t.0, (t.1, t.2, t.3))) (λ path rest is few. cell_path_again along path rest is.0 is.1 is.2)

-- a cell is a position, a tag, a share, and the path that the tag calls for
maps : (axis : Axis) (i : ℕ) → i < 2 ^ 16 → AreMaps {R = Message × List ℕ} (then_field (number16 ▸ tag axis ▸ share512) (λ x. cell_path (is_one_axis axis x.0.1)))
    (λ x. record { cell = cell_on axis i x.0.0.0; axis = x.0.0.1; share = x.0.1; path = x.1 }) (λ m. (((position axis m.cell, m.axis), m.share), m.path)) (IsSetCell axis i)
maps axis i lt = record {
  there = λ x is.
      let pos : ℕ = x.0.0.0 in
      let in_cell : IsCell (cell_on axis i pos) = on_cell axis i pos lt is.0.0.0 in
      let on : eqb (index axis (cell_on axis i pos)) i ≡ true = ap (λ (n : ℕ). eqb n i) (index-cell_on axis i pos) ∙ eq-eqb i i refl in (
        (
          record { row = in_cell.row; col = in_cell.col; share = is.0.1; few = is.1.0; nodes = is.1.1 },
          and_from (eqb (index axis (cell_on axis i pos)) i) (is_path (is_one_axis axis x.0.0.1) x.1) on is.1.2,
        ),
        ap (λ (n : ℕ). (((n, x.0.0.1), x.0.1), x.1)) (position-cell_on axis i pos),
      );
  back = λ m is.
      let both = and_parts (eqb (index axis m.cell) i) (is_path (is_along axis m) m.path) is.1 in (
        (((position-bytes axis m.cell is.0.row is.0.col, tt), is.0.share), (is.0.few, is.0.nodes, both.1)),
        ap (λ (c : Cell). record m { cell = c }) (cell_there axis i m.cell both.0),
      );
}

-- cells are a field: several may stand one after another
pub set_cell_field : (axis : Axis) (i : ℕ) → i < 2 ^ 16 → IsField (set_cell_at axis i) (cell_payload axis) (IsSetCell axis i)
unfolding set_cell_at
set_cell_field axis i lt = made_field (maps axis i lt) (set_cell_at axis i) (cell_payload axis) (λ bytes. refl) (λ m. refl) (λ m. omega arith)

-- ---- lists of cells

-- cells that can be written are samples, and all are placed
pub placed_messages : (axis : Axis) (i : ℕ) (cells : List Message) → AllByRecursion (IsSetCell axis i) cells → AllByRecursion IsMessage cells × (list_all (is_at axis i) cells ≡ true)
placed_messages axis i [] all = (tt, refl)
placed_messages axis i (m ∷ cells) all =
    let others = placed_messages axis i cells all.1 in
    ((all.0.0, others.0), and_from (is_at axis i m) (list_all (is_at axis i) cells) all.0.1 others.1)

-- samples that are placed can be written
pub all_placed : (axis : Axis) (i : ℕ) (cells : List Message) → AllByRecursion IsMessage cells → list_all (is_at axis i) cells ≡ true → AllByRecursion (IsSetCell axis i) cells
all_placed axis i [] all placed = tt
all_placed axis i (m ∷ cells) all placed =
    let both = and_parts (is_at axis i m) (list_all (is_at axis i) cells) placed in
    ((all.0, both.0), all_placed axis i cells all.1 both.1)
