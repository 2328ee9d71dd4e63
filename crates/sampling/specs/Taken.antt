-- Places that are taken out of a list one after another, and what is left of the list.
use Rattle.std.specs.Prelude.{ℕ, suc, ◌+◌, ◌-◌, ◌*◌, ◌≤◌, List, [], ◌∷◌, length, map, nat_le, if◌then◌else◌, ⊤}
use Rattle.std.specs.List.{insert}
use Rattle.namespace_id.specs.declared.cells.Cell.{Cell}
use Rattle.namespace_id.specs.Cells.{cell_numbered}
use Rattle.namespace_id.specs.Lists.{ascending}

-- the places ascend, and none is below the least
abbrev pub AscendFrom : ℕ → List ℕ → Type 0
AscendFrom least [] = ⊤
AscendFrom least (first ∷ taken) = (least ≤ first) × AscendFrom (suc first) taken

-- how many taken places come before what stands at a place of the rest: each that is passed moves it on
-- by one
unfoldable pub passed : List ℕ → ℕ → ℕ
passed [] place = 0
passed (first ∷ taken) place = if nat_le first place then suc (passed taken (suc place)) else 0

-- its place in the whole list
abbrev pub whole_place : List ℕ → ℕ → ℕ
whole_place taken place = place + passed taken place

-- the taken places, with that one too
abbrev pub with_taken : List ℕ → ℕ → List ℕ
with_taken taken place = insert taken (passed taken place) (whole_place taken place)

-- the cells that are left of a square with so many cells in a row and in a column, row-major
abbrev pub cells_left : ℕ → List ℕ → List Cell
cells_left in_row taken =
    map (λ place. cell_numbered in_row (whole_place taken place)) (ascending 0 (in_row * in_row - length taken))
