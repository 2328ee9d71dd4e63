-- Loops over cells: one that reads them, and one that tests whether they ascend.
use Rattle.std.proofs.Common.{◌≡◌, ◌∙◌, ℕ, suc, ◌+◌, ◌-◌, ◌<◌, ◌≤◌, Bool, true, false, ◌&&◌, List, [], ◌∷◌, ◌++◌, take, drop, refl, sym, ap, arith, append_assoc, append-nil, ap₂}
use Rattle.std.specs.List.{list_all}
use Rattle.std.specs.Int.{w16, from_be_bytes}
use Rattle.std.proofs.lemmas.Bool.{and_parts, and_right}
use Rattle.namespace_id.specs.declared.cells.Cell.{Cell}
use Rattle.namespace_id.specs.Cells.{is_width, is_in_square, is_before, are_cells}
use Rattle.namespace_id.specs.Lists.{holds_along}
use Rattle.frame_fields.specs.Fields.{cells_of}
use Rattle.frame_payloads.specs.kinds.Missing.{is_next, are_next}

-- reading one more cell reads the first, and then the others
cells_suc : (n : ℕ) (bytes : List ℕ) → cells_of (suc n) bytes
    ≡ record { row = from_be_bytes w16 (take 2 bytes); col = from_be_bytes w16 (take 2 (drop 2 bytes)) } ∷ cells_of n (drop 4 bytes)
unfolding cells_of
cells_suc n bytes = refl

-- no cells are read of any bytes
cells_zero : (bytes : List ℕ) → cells_of 0 bytes ≡ []
unfolding cells_of
cells_zero bytes = refl

-- one more cell was read
pub cells_more : (all so_far : List Cell) (cell : Cell) (count i : ℕ) (rest : List ℕ) → i < count
    → so_far ++ cells_of (count - i) rest ≡ all → cell.row ≡ from_be_bytes w16 (take 2 rest) → cell.col ≡ from_be_bytes w16 (take 2 (drop 2 rest))
    → (so_far ++ cell ∷ []) ++ cells_of (count - (i + 1)) (drop 4 rest) ≡ all
cells_more all so_far cell count i rest h done er ec =
    let left : count - i ≡ suc (count - (i + 1)) = omega arith in
    let read : Cell = record { row = from_be_bytes w16 (take 2 rest); col = from_be_bytes w16 (take 2 (drop 2 rest)) } in
    let first : cell ≡ read = λ k. record { row = er k; col = ec k } in
    append_assoc so_far (cell ∷ []) (cells_of (count - (i + 1)) (drop 4 rest))
    ∙ ap (λ (d : Cell). so_far ++ d ∷ cells_of (count - (i + 1)) (drop 4 rest)) first
    ∙ ap (λ (l : List Cell). so_far ++ l) (sym (ap (λ (k : ℕ). cells_of k rest) left ∙ cells_suc (count - (i + 1)) rest))
    ∙ done

-- all were read
pub cells_end : (all so_far : List Cell) (count i : ℕ) (rest : List ℕ) → count ≤ i → so_far ++ cells_of (count - i) rest ≡ all → so_far ≡ all
cells_end all so_far count i rest h done =
    let none : count - i ≡ 0 = omega arith in
    sym (ap (λ (l : List Cell). so_far ++ l) (ap (λ (k : ℕ). cells_of k rest) none ∙ cells_zero rest) ∙ append-nil so_far) ∙ done

-- ---- cells that are tested one after another

-- the first of the cells that are left
first_left : (count i : ℕ) (rest : List ℕ) (cell : Cell) → i < count → cell.row ≡ from_be_bytes w16 (take 2 rest) → cell.col ≡ from_be_bytes w16 (take 2 (drop 2 rest))
    → cells_of (count - i) rest ≡ cell ∷ cells_of (count - (i + 1)) (drop 4 rest)
first_left count i rest cell h er ec =
    let left : count - i ≡ suc (count - (i + 1)) = omega arith in
    let read : Cell = record { row = from_be_bytes w16 (take 2 rest); col = from_be_bytes w16 (take 2 (drop 2 rest)) } in
    let first : cell ≡ read = λ k. record { row = er k; col = ec k } in
    ap (λ (k : ℕ). cells_of k rest) left ∙ cells_suc (count - (i + 1)) rest ∙ ap (λ (d : Cell). d ∷ cells_of (count - (i + 1)) (drop 4 rest)) (sym first)

-- cells go on after one where the first comes after it, and the others after the first
next_here : (k : ℕ) (before cell : Cell) (cells : List Cell) (inside comes : Bool) → is_in_square k cell ≡ inside → is_before before cell ≡ comes
    → are_next k before (cell ∷ cells) ≡ ((inside && list_all (is_in_square k) cells) && (comes && holds_along is_before (cell ∷ cells)))
unfolding holds_along
next_here k before cell cells inside comes ei ec =
    ap₂ (λ (a b : Bool). (a && list_all (is_in_square k) cells) && (b && holds_along is_before (cell ∷ cells))) ei ec

-- the next one goes on
pub next_on : (k : ℕ) (before cell : Cell) (cells : List Cell) → is_next k before cell ≡ true → are_next k before (cell ∷ cells) ≡ are_next k cell cells
next_on k before cell cells h =
    let both = and_parts (is_in_square k cell) (is_before before cell) h in next_here k before cell cells true true both.0 both.1

-- where one of two tests fails, so do both with more behind them
fails : (inside comes a b : Bool) → (inside && comes) ≡ false → ((inside && a) && (comes && b)) ≡ false
fails true true a b e = absurd cc
fails true false a b e = and_right a false refl
fails false comes a b e = refl

-- it doesn't
pub next_stop : (k : ℕ) (before cell : Cell) (cells : List Cell) → is_next k before cell ≡ false → are_next k before (cell ∷ cells) ≡ false
next_stop k before cell cells h =
    next_here k before cell cells (is_in_square k cell) (is_before before cell) refl refl
    ∙ fails (is_in_square k cell) (is_before before cell) (list_all (is_in_square k) cells) (holds_along is_before (cell ∷ cells)) h

-- ---- of a loop over them

-- a cell that goes on leaves the answer to the others
pub next_more : (k count i : ℕ) (before cell : Cell) (rest : List ℕ) (all : Bool) → i < count
    → cell.row ≡ from_be_bytes w16 (take 2 rest) → cell.col ≡ from_be_bytes w16 (take 2 (drop 2 rest)) → is_next k before cell ≡ true
    → are_next k before (cells_of (count - i) rest) ≡ all → are_next k cell (cells_of (count - (i + 1)) (drop 4 rest)) ≡ all
next_more k count i before cell rest all h er ec next so_far =
    sym (ap (are_next k before) (first_left count i rest cell h er ec) ∙ next_on k before cell (cells_of (count - (i + 1)) (drop 4 rest)) next) ∙ so_far

-- a cell that doesn't go on decides: the cells do not ascend
pub next_fails : (k count i : ℕ) (before cell : Cell) (rest : List ℕ) (all : Bool) → i < count
    → cell.row ≡ from_be_bytes w16 (take 2 rest) → cell.col ≡ from_be_bytes w16 (take 2 (drop 2 rest)) → is_next k before cell ≡ false
    → are_next k before (cells_of (count - i) rest) ≡ all → false ≡ all
next_fails k count i before cell rest all h er ec next so_far =
    sym (ap (are_next k before) (first_left count i rest cell h er ec) ∙ next_stop k before cell (cells_of (count - (i + 1)) (drop 4 rest)) next) ∙ so_far

-- where no cells are left, all went on
pub next_end : (k count i : ℕ) (before : Cell) (rest : List ℕ) (all : Bool) → count ≤ i → are_next k before (cells_of (count - i) rest) ≡ all → true ≡ all
unfolding holds_along
next_end k count i before rest all h so_far =
    let none : count - i ≡ 0 = omega arith in
    sym (ap (are_next k before) (ap (λ (n : ℕ). cells_of n rest) none ∙ cells_zero rest)) ∙ so_far

-- the first cell is in the square, and the others go on after it
first_inside : (k : ℕ) (cell : Cell) (cells : List Cell) (width inside : Bool) → is_width k ≡ width → is_in_square k cell ≡ inside
    → are_cells k (cell ∷ cells) ≡ ((width && (inside && list_all (is_in_square k) cells)) && holds_along is_before (cell ∷ cells))
first_inside k cell cells width inside ew ei =
    ap₂ (λ (a b : Bool). (a && (b && list_all (is_in_square k) cells)) && holds_along is_before (cell ∷ cells)) ew ei

-- cells are those of a square where the first is and the others go on after it
cells_first : (k count : ℕ) (cell : Cell) (bytes : List ℕ) (inside : Bool) → 0 < count → is_width k ≡ true
    → cell.row ≡ from_be_bytes w16 (take 2 bytes) → cell.col ≡ from_be_bytes w16 (take 2 (drop 2 bytes)) → is_in_square k cell ≡ inside
    → are_cells k (cells_of count bytes) ≡ ((inside && list_all (is_in_square k) (cells_of (count - 1) (drop 4 bytes))) && holds_along is_before (cell ∷ cells_of (count - 1) (drop 4 bytes)))
cells_first k count cell bytes inside h width er ec ei =
    let whole : count ≡ count - 0 = omega arith in
    ap (λ (n : ℕ). are_cells k (cells_of n bytes)) whole ∙ ap (are_cells k) (first_left count 0 bytes cell h er ec) ∙ first_inside k cell (cells_of (count - 1) (drop 4 bytes)) true inside width ei

-- where the first cell is one of the square, the others decide
pub cells_on : (k count : ℕ) (cell : Cell) (bytes rest : List ℕ) → 0 < count → is_width k ≡ true
    → cell.row ≡ from_be_bytes w16 (take 2 bytes) → cell.col ≡ from_be_bytes w16 (take 2 (drop 2 bytes)) → is_in_square k cell ≡ true → rest ≡ drop 4 bytes
    → are_next k cell (cells_of (count - 1) rest) ≡ are_cells k (cells_of count bytes)
cells_on k count cell bytes rest h width er ec inside behind =
    ap (λ (l : List ℕ). are_next k cell (cells_of (count - 1) l)) behind ∙ sym (cells_first k count cell bytes true h width er ec inside)

-- where the first cell isn't one of the square, the cells are not
pub cells_fail : (k count : ℕ) (cell : Cell) (bytes : List ℕ) → 0 < count → is_width k ≡ true
    → cell.row ≡ from_be_bytes w16 (take 2 bytes) → cell.col ≡ from_be_bytes w16 (take 2 (drop 2 bytes)) → is_in_square k cell ≡ false
    → false ≡ are_cells k (cells_of count bytes)
cells_fail k count cell bytes h width er ec outside = sym (cells_first k count cell bytes false h width er ec outside)
