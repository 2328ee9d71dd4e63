-- Plans: the cells that a picker answers to 0, 1, 2 and so on.
use Rattle.std.specs.Prelude.{◌≡◌, ℕ, ◌<◌, ◌++◌, List, ◌∷◌, slice_get, true, Option, Some, None}
use Rattle.namespace_id.specs.declared.cells.Cell.{Cell}
use Rattle.namespace_id.specs.Cells.{is_in_square}
use Rattle.data_header.specs.Headers.{Roots}
use Rattle.light_node.specs.declared.events.Event.{Event}
use Rattle.light_node.specs.Events.{IsShownCell, AllShown}

-- a picker may be asked for each number below a limit, and then answers a cell of the square of a width
abbrev pub PicksInside : {F : Type 0} → (F → ℕ → Type 0) → (F → ℕ → Cell → Type 0) → F → ℕ → ℕ → Type 0
PicksInside can_pick picks pick limit k = (number : ℕ) → number < limit
    → can_pick pick number × ((cell : Cell) → picks pick number cell → is_in_square k cell ≡ true)

-- each planned cell is what the picker may answer to its number
abbrev pub IsPlanOf : {F : Type 0} → (F → ℕ → Cell → Type 0) → F → List Cell → Type 0
IsPlanOf picks pick plan = (number : ℕ) (cell : Cell) → slice_get plan number ≡ Some cell → picks pick number cell

-- the earliest planned cell that isn't shown, if there is one
abbrev pub IsNextWanted : Roots → List Cell → List Event → Option Cell → Type 0
IsNextWanted header plan events None = AllShown header plan events
IsNextWanted header plan events (Some cell) = (before after : List Cell) × (plan ≡ before ++ cell ∷ after)
    × AllShown header before events × (IsShownCell header events cell → ⊥)
