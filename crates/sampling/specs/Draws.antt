-- Drawn cells (docs/FORMATS.md, "Drawn cells").
use Rattle.std.specs.Prelude.{◌≡◌, ℕ, zero, suc, ◌*◌, ◌%◌, List, [], ◌∷◌, length, get_or, slice_get, Some, nat_le, if◌then◌else◌}
use Rattle.std.specs.List.{remove}
use Rattle.namespace_id.specs.declared.cells.Cell.{Cell}
use Rattle.namespace_id.specs.Cells.{cell_numbered, all_cells}
use Rattle.sampling.specs.Words.{key_number}

-- how many cells may be drawn of the square of a width: all of them, and at most 4,096
abbrev pub draw_limit : ℕ → ℕ
draw_limit k = if nat_le (4 * k * k) 4096 then 4 * k * k else 4096

-- the place in the rest that draw i takes
abbrev pub draw_place : List ℕ → ℕ → List Cell → ℕ
draw_place key i rest = key_number key (2 * i) % length rest

-- some draws from draw i on: each takes a cell out of the rest, which closes up
unfoldable pub draws_from : List ℕ → ℕ → ℕ → List Cell → List Cell
draws_from key i zero rest = []
draws_from key i (suc count) rest =
    get_or rest (draw_place key i rest) (cell_numbered 1 0)
    ∷ draws_from key (suc i) count (remove rest (draw_place key i rest))

-- the cells that a key draws of the square of a width
abbrev pub drawn_cells : List ℕ → ℕ → ℕ → List Cell
drawn_cells key k count = draws_from key 0 count (all_cells k)

-- no cell stands at two places
abbrev pub AreApart : List Cell → Type 0
AreApart cells = (i j : ℕ) (cell : Cell) → slice_get cells i ≡ Some cell → slice_get cells j ≡ Some cell → i ≡ j
