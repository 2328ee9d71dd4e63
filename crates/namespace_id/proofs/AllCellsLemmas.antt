-- The list of all cells of a square.
use Rattle.std.proofs.Common.{◌≡◌, ◌∙◌, ℕ, zero, suc, ◌+◌, ◌*◌, ◌<◌, ◌≤◌, List, length, map, true, refl, ap, arith}
use Rattle.std.specs.Prelude.{◌↔◌}
use Rattle.std.specs.List.{Contains, list_all}
use Rattle.std.proofs.Math.Nat.{mod-lt}
use Rattle.std.proofs.lemmas.Bool.{and_from}
use Rattle.std.proofs.lemmas.List.{get_or-map, length-map}
use Rattle.namespace_id.specs.declared.cells.Cell.{Cell}
use Rattle.namespace_id.specs.Cells.{is_width, is_in_square, is_before, are_cells, cell_numbered, all_cells}
use Rattle.namespace_id.specs.Lists.{holds_along, ascending}
use Rattle.namespace_id.proofs.AscendingLemmas.{length-ascending, get_or-ascending}
use Rattle.namespace_id.proofs.NumberLemmas.{inside, in_square, number-lt, row-lt, cell_numbered-number, numbers_rise}
use Rattle.namespace_id.proofs.RoomLemmas.{all_each}
use Rattle.namespace_id.proofs.RowMajorLemmas.{cells_parts, cells_from}
use Rattle.namespace_id.proofs.WidthLemmas.{is_width-pos}

-- the cell with a number below that of all cells is in the square
pub numbered_inside : (k number : ℕ) → 0 < k → number < 2 * k * (2 * k)
    → is_in_square k (cell_numbered (2 * k) number) ≡ true
numbered_inside k number some h =
    let wide : 0 < 2 * k = omega arith in
    in_square k (cell_numbered (2 * k) number) (row-lt (2 * k) number wide h) (mod-lt number wide)

-- cells with numbers that count up to that of all cells are in the square
all_inside : (k first n : ℕ) → 0 < k → first + n ≤ 2 * k * (2 * k)
    → list_all (is_in_square k) (map (cell_numbered (2 * k)) (ascending first n)) ≡ true
unfolding ascending
all_inside k first zero some h = refl
all_inside k first (suc n) some h =
    and_from (is_in_square k (cell_numbered (2 * k) first))
    (list_all (is_in_square k) (map (cell_numbered (2 * k)) (ascending (suc first) n)))
    (numbered_inside k first some (omega arith)) (all_inside k (suc first) n some (omega arith))

-- cells with numbers that count up are row-major
all_rise : (in_row first n : ℕ) → holds_along is_before (map (cell_numbered in_row) (ascending first n)) ≡ true
unfolding ascending holds_along
all_rise in_row first zero = refl
all_rise in_row first (suc zero) = refl
all_rise in_row first (suc (suc n)) =
    and_from (is_before (cell_numbered in_row first) (cell_numbered in_row (suc first)))
    (holds_along is_before (map (cell_numbered in_row) (ascending (suc first) (suc n))))
    (numbers_rise in_row first (suc first) (omega arith)) (all_rise in_row (suc first) (suc n))

-- all cells of a square are cells of it, row-major
pub are_all_cells : (k : ℕ) → is_width k ≡ true → are_cells k (all_cells k) ≡ true
are_all_cells k width =
    cells_from k (all_cells k) width (all_inside k 0 (2 * k * (2 * k)) (is_width-pos k width) (omega arith))
    (all_rise (2 * k) 0 (2 * k * (2 * k)))

-- what is known of the number of a cell of a square
pub number_of : (k : ℕ) (cell : Cell) → is_in_square k cell ≡ true
    → (cell.row * (2 * k) + cell.col < 2 * k * (2 * k)) × (cell_numbered (2 * k) (cell.row * (2 * k) + cell.col) ≡ cell)
number_of k cell within =
    let both = inside k cell within in (number-lt (2 * k) cell both.0 both.1, cell_numbered-number (2 * k) cell both.1)

-- each cell of the square is among all of them
among_all : (k : ℕ) (cell : Cell) → is_in_square k cell ≡ true → Contains (all_cells k) cell
among_all k cell within =
    let number : ℕ = cell.row * (2 * k) + cell.col in
    let numbers : List ℕ = ascending 0 (2 * k * (2 * k)) in
    let count : length numbers ≡ 2 * k * (2 * k) = length-ascending (2 * k * (2 * k)) 0 in
    let of = number_of k cell within in
    let below : number < 2 * k * (2 * k) = of.0 in
    let start : 0 + number ≡ number = omega arith in (
      number,
      omega (arith, length-map numbers (cell_numbered (2 * k)), count),
      get_or-map (cell_numbered (2 * k)) numbers number 0 cell (omega (arith, count))
          ∙ ap (cell_numbered (2 * k)) (get_or-ascending (2 * k * (2 * k)) 0 number below ∙ start) ∙ of.1,
    )

-- and no other
pub all_member : (k : ℕ) (cell : Cell) → is_width k ≡ true → Contains (all_cells k) cell ↔ (is_in_square k cell ≡ true)
all_member k cell width = (
  λ at. all_each (is_in_square k) (all_cells k) (cells_parts k (all_cells k) (are_all_cells k width)).1 cell at,
  λ within. among_all k cell within,
)
