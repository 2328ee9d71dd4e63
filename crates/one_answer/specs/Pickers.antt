-- Pickers that leave no choice.
use Rattle.std.specs.Prelude.{◌≡◌, ℕ}
use Rattle.namespace_id.specs.declared.cells.Cell.{Cell}

-- a picker has one cell for each number
abbrev pub PicksOne : {F : Type 0} → (F → ℕ → Cell → Type 0) → F → Type 0
PicksOne picks pick = (number : ℕ) (cell other : Cell) → picks pick number cell → picks pick number other → cell ≡ other
