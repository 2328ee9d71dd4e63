-- Cells on decided rows and columns, and the share that is known of a cell.
use Rattle.std.proofs.Common.{◌≡◌, ◌∙◌, ◌⊎◌, ℕ, true, false, ◌||◌, refl, sym, ap, inl, inr}
use Rattle.std.specs.Prelude.{Option, Some, None, is_some}
use Rattle.std.proofs.lemmas.Bool.{cases_Bool, true≢false, false_from_ne_true, or_left, or_right, or_cases}
use Rattle.namespace_id.specs.declared.cells.Cell.{Cell}
use Rattle.namespace_id.specs.declared.cells.Axis.{Axis}
use Rattle.namespace_id.specs.declared.cells.Axis.TheVariants.{Row, Col}
use Rattle.axis_roots.specs.declared.message.proved.Proved.{Proved}
use Rattle.axis_roots.specs.Messages.{index}
use Rattle.axis_roots.specs.Lines.{cell_on}
use Rattle.axis_roots.proofs.Grids.AxisLemmas.{index-cell_on}
use Rattle.repair_queue.specs.Slots.{Kept, Flags, IsFlagged}
use Rattle.repair_queue.specs.Boards.{is_lined, is_found}
use Rattle.repair_queue.proofs.Places.PlaceLemmas.{same_line}

-- a cell on a decided row or column lies on one
pub lined_by : (flag : Flags) (axis : Axis) (cell : Cell) → flag axis (index axis cell) ≡ true → is_lined flag cell ≡ true
lined_by flag Row cell on = or_left (flag Row cell.row) (flag Col cell.col) on
lined_by flag Col cell on = or_right (flag Row cell.row) (flag Col cell.col) on

-- each cell of it does
pub lined_on : (flag : Flags) (axis : Axis) (i pos : ℕ) → flag axis i ≡ true → is_lined flag (cell_on axis i pos) ≡ true
lined_on flag axis i pos on = lined_by flag axis (cell_on axis i pos) (ap (flag axis) (index-cell_on axis i pos) ∙ on)

-- which one it is
pub lined_one : (flag : Flags) (cell : Cell) → is_lined flag cell ≡ true → (axis : Axis) × (flag axis (index axis cell) ≡ true)
lined_one flag cell on = elim (or_cases (flag Row cell.row) (flag Col cell.col) on) [ inl row ↦ (Row, row) | inr col ↦ (Col, col) ]

-- a cell on none lies on no decided row or column
pub lined_off : (flag : Flags) (axis : Axis) (cell : Cell) → is_lined flag cell ≡ false → flag axis (index axis cell) ≡ false
lined_off flag axis cell off = false_from_ne_true (flag axis (index axis cell)) (λ on. true≢false (sym (lined_by flag axis cell on) ∙ off))

-- ---- one more that is decided

module _ (flag raised : Flags) (axis : Axis) (i : ℕ) (flagged : IsFlagged flag raised axis i) where
  -- a flag is the one that is set, or as it was
  pub same_flag : (other : Axis) (j : ℕ) → ((other ≡ axis) × (j ≡ i)) ⊎ (raised other j ≡ flag other j)
  same_flag other j = elim (same_line other axis j i) [
    | inl here ↦ inl here
    | inr apart ↦ inr (flagged.elsewhere other j apart)
  ]

  -- one that was set stays
  pub stays_set : (other : Axis) (j : ℕ) → flag other j ≡ true → raised other j ≡ true
  stays_set other j on = elim (same_flag other j) [
    | inl (ea, ej) ↦ ap (λ (x : Axis). raised x j) ea ∙ ap (raised axis) ej ∙ flagged.here
    | inr same ↦ same ∙ on
  ]

  -- one that isn't set wasn't
  pub was_unset : (other : Axis) (j : ℕ) → raised other j ≡ false → flag other j ≡ false
  was_unset other j off = false_from_ne_true (flag other j) (λ on. true≢false (sym (stays_set other j on) ∙ off))

  -- cells on decided rows and columns stay so
  pub lined_stays : (cell : Cell) → is_lined flag cell ≡ true → is_lined raised cell ≡ true
  lined_stays cell on = let one = lined_one flag cell on in lined_by raised one.0 cell (stays_set one.0 (index one.0 cell) one.1)

  pub lined_was : (cell : Cell) → is_lined raised cell ≡ false → is_lined flag cell ≡ false
  lined_was cell off = false_from_ne_true (is_lined flag cell) (λ on. true≢false (sym (lined_stays cell on) ∙ off))

  -- others are only those on this one
  pub lined_else : (cell : Cell) → (index axis cell ≡ i → ⊥) → is_lined raised cell ≡ is_lined flag cell
  lined_else cell off = elim (cases_Bool (is_lined raised cell)) [
    | inl on ↦
        let one = lined_one raised cell on in
        on ∙ sym (elim (same_flag one.0 (index one.0 cell)) [
          | inl (ea, ej) ↦ absurd (off (ap (λ (x : Axis). index x cell) (sym ea) ∙ ej))
          | inr same ↦ lined_by flag one.0 cell (sym same ∙ one.1)
        ])
    | inr is ↦ is ∙ sym (lined_was cell is)
  ]

-- ---- known cells

-- a cell on a decided row or column is known
pub found_lined : (slot : Kept) (flag : Flags) (cell : Cell) → is_lined flag cell ≡ true → is_found slot flag cell ≡ true
found_lined slot flag cell on =
    or_left (is_lined flag cell || is_some (slot Row cell)) (is_some (slot Col cell)) (or_left (is_lined flag cell) (is_some (slot Row cell)) on)

-- a cell of which a sample is kept is known
pub found_some : (slot : Kept) (flag : Flags) (axis : Axis) (cell : Cell) → is_some (slot axis cell) ≡ true → is_found slot flag cell ≡ true
found_some slot flag Row cell some =
    or_left (is_lined flag cell || is_some (slot Row cell)) (is_some (slot Col cell)) (or_right (is_lined flag cell) (is_some (slot Row cell)) some)
found_some slot flag Col cell some = or_right (is_lined flag cell || is_some (slot Row cell)) (is_some (slot Col cell)) some

pub found_held : (slot : Kept) (flag : Flags) (axis : Axis) (cell : Cell) (kept : Proved) → slot axis cell ≡ Some kept → is_found slot flag cell ≡ true
found_held slot flag axis cell kept e = found_some slot flag axis cell (ap is_some e)

-- what a slot that isn't empty holds
held_some : (slot : Option Proved) → is_some slot ≡ true → (kept : Proved) × (slot ≡ Some kept)
held_some (Some kept) e = (kept, refl)
held_some None e = absurd cc

-- a known cell lies on a decided row or column, or a sample of it is kept
pub found_how : (slot : Kept) (flag : Flags) (cell : Cell) → is_found slot flag cell ≡ true
    → (is_lined flag cell ≡ true) ⊎ ((axis : Axis) × (kept : Proved) × (slot axis cell ≡ Some kept))
found_how slot flag cell is = elim (or_cases (is_lined flag cell || is_some (slot Row cell)) (is_some (slot Col cell)) is) [
  | inl first ↦ elim (or_cases (is_lined flag cell) (is_some (slot Row cell)) first) [
    | inl on ↦ inl on
    | inr row ↦ let x = held_some (slot Row cell) row in inr (Row, x.0, x.1)
  ]
  | inr col ↦ let x = held_some (slot Col cell) col in inr (Col, x.0, x.1)
]
