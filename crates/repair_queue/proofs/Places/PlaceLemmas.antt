-- One place or another: axes, cells, slots, and cells of a row or a column.
use Rattle.std.proofs.Common.{◌≡◌, ℕ, refl, ap, inl, inr}
use Rattle.std.specs.Prelude.{◌⊎◌}
use Rattle.std.proofs.lemmas.Bool.{cases_eq}
use Rattle.namespace_id.specs.declared.cells.Cell.{Cell}
use Rattle.namespace_id.specs.declared.cells.Axis.{Axis}
use Rattle.namespace_id.specs.declared.cells.Axis.TheVariants.{Row, Col}
use Rattle.namespace_id.specs.Cells.{crossing}

-- two axes are of one kind or not
pub same_axis : (axis other : Axis) → (axis ≡ other) ⊎ (axis ≡ other → ⊥)
same_axis Row Row = inl refl
same_axis Row Col = inr (λ e. cc)
same_axis Col Row = inr (λ e. cc)
same_axis Col Col = inl refl

-- an axis through a cell is this one or the crossing one
pub own_or_crossing : (axis own : Axis) → (axis ≡ own) ⊎ (axis ≡ crossing own)
own_or_crossing Row Row = inl refl
own_or_crossing Row Col = inr refl
own_or_crossing Col Row = inr refl
own_or_crossing Col Col = inl refl

-- two cells are one or not
pub same_cell : (cell other : Cell) → (cell ≡ other) ⊎ (cell ≡ other → ⊥)
same_cell cell other = elim (cases_eq cell.row other.row) [
  | inl r ↦ elim (cases_eq cell.col other.col) [
    | inl c ↦ inl (λ i. record { row = r i; col = c i })
    | inr c ↦ inr (λ e. c (ap (λ (x : Cell). x.col) e))
  ]
  | inr r ↦ inr (λ e. r (ap (λ (x : Cell). x.row) e))
]

-- two slots are one or not
pub same_slot : (axis other : Axis) (cell d : Cell) → ((axis ≡ other) × (cell ≡ d)) ⊎ ((axis ≡ other) × (cell ≡ d) → ⊥)
same_slot axis other cell d = elim (same_axis axis other) [
  | inl e ↦ elim (same_cell cell d) [ inl f ↦ inl (e, f) | inr f ↦ inr (λ x. f x.1) ]
  | inr e ↦ inr (λ x. e x.0)
]

-- two rows or columns are one or not
pub same_line : (axis other : Axis) (i j : ℕ) → ((axis ≡ other) × (i ≡ j)) ⊎ ((axis ≡ other) × (i ≡ j) → ⊥)
same_line axis other i j = elim (same_axis axis other) [
  | inl e ↦ elim (cases_eq i j) [ inl f ↦ inl (e, f) | inr f ↦ inr (λ x. f x.1) ]
  | inr e ↦ inr (λ x. e x.0)
]
