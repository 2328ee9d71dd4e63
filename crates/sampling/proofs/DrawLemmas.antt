-- Cells that are drawn from a list.
use Rattle.std.proofs.Common.{◌≡◌, ◌≢◌, ◌∙◌, ℕ, zero, suc, ◌+◌, ◌-◌, ◌*◌, ◌%◌, ◌<◌, ◌≤◌, List, [], ◌∷◌, ◌++◌, length, get_or, map, true, ◌&&◌, refl, sym, ap, ap₂, subst, append_assoc, arith}
use Rattle.std.proofs.lemmas.List.{append-nil, length-map}
use Rattle.std.specs.List.{remove, AllByRecursion, list_all}
use Rattle.std.proofs.Math.Nat.{mod-lt}
use Rattle.std.proofs.lemmas.List.Edits.{length-remove}
use Rattle.std.proofs.lemmas.Bool.{and_parts}
use Rattle.std.proofs.lemmas.Bool.Decides.{nat_tests}
use Rattle.std.proofs.lemmas.List.Elements.{All-from_recursion}
use Rattle.namespace_id.specs.declared.cells.Cell.{Cell}
use Rattle.namespace_id.specs.Cells.{is_width, is_in_square, is_before, are_cells, cell_numbered, all_cells}
use Rattle.namespace_id.proofs.AscendingLemmas.{length-ascending}
use Rattle.namespace_id.specs.Lists.{ascending, holds_along}
use Rattle.sampling.specs.Words.{key_number}
use Rattle.sampling.specs.Draws.{draw_place, draws_from, drawn_cells, AreApart}
use Rattle.sampling.specs.Taken.{cells_left}
use Rattle.sampling.proofs.TakenLemmas.{length-left}
use Rattle.sampling.proofs.ApartLemmas.{AreOnce, once_apart, all_tested, tested_all, all-remove, once-remove, once-at}

-- a draw is from the rest
pub place-lt : (key : List ℕ) (i : ℕ) (rest : List Cell) → 0 < length rest → draw_place key i rest < length rest
place-lt key i rest some = mod-lt (key_number key (2 * i)) some

-- the place that is taken of so many cells as are left is the one that the key gives among them
pub place_left : (in_row rows cols gone place i : ℕ) (key taken : List ℕ) → rows ≡ in_row → cols ≡ in_row → gone ≡ length taken → place < rows * cols - gone
    → place ≡ key_number key (2 * i) % (rows * cols - gone)
    → (place < length (cells_left in_row taken)) × (place ≡ draw_place key i (cells_left in_row taken))
place_left in_row rows cols gone place i key taken er ec eg within is =
    let square : rows * cols ≡ in_row * in_row = ap₂ (λ (m n : ℕ). m * n) er ec in
    let left : rows * cols - gone ≡ length (cells_left in_row taken) = omega (arith, square, eg, length-left in_row taken) in
    (omega (arith, within, left), is ∙ ap (λ (n : ℕ). key_number key (2 * i) % n) left)

-- there are as many cells as are drawn
pub length-draws : (key : List ℕ) (count i : ℕ) (rest : List Cell) → length (draws_from key i count rest) ≡ count
unfolding draws_from
length-draws key zero i rest = refl
length-draws key (suc count) i rest = ap suc (length-draws key count (suc i) (remove rest (draw_place key i rest)))

-- a draw leaves enough for the others
rest_enough : (key : List ℕ) (count i : ℕ) (rest : List Cell) → suc count ≤ length rest
    → count ≤ length (remove rest (draw_place key i rest))
rest_enough key count i rest enough =
    omega (arith, length-remove rest (draw_place key i rest) (place-lt key i rest (omega arith)))

-- what holds of all cells of a list holds of those that are drawn from it
pub all_drawn : (P : Cell → Type 0) (key : List ℕ) (count i : ℕ) (rest : List Cell) → AllByRecursion P rest
    → count ≤ length rest
    → AllByRecursion P (draws_from key i count rest)
unfolding draws_from
all_drawn P key zero i rest all enough = tt
all_drawn P key (suc count) i rest all enough = (
  All-from_recursion P rest all (draw_place key i rest) (cell_numbered 1 0) (place-lt key i rest (omega arith)),
  all_drawn P key count (suc i) (remove rest (draw_place key i rest)) (all-remove P rest (draw_place key i rest) all)
      (rest_enough key count i rest enough),
)

-- and where the list has no repeat, the draws have none
pub once_drawn : (key : List ℕ) (count i : ℕ) (rest : List Cell) → AreOnce rest → count ≤ length rest
    → AreOnce (draws_from key i count rest)
unfolding draws_from
once_drawn key zero i rest once enough = tt
once_drawn key (suc count) i rest once enough =
    let place : ℕ = draw_place key i rest in
    let within : place < length rest = place-lt key i rest (omega arith) in (
      all_drawn (λ y. get_or rest place (cell_numbered 1 0) ≢ y) key count (suc i) (remove rest place)
          (once-at rest place (cell_numbered 1 0) once within)
          (rest_enough key count i rest enough),
      once_drawn key count (suc i) (remove rest place) (once-remove rest place once)
          (rest_enough key count i rest enough),
    )

-- no more cells are drawn
pub draws-none : (key : List ℕ) (i count : ℕ) (rest : List Cell) → count ≡ 0 → draws_from key i count rest ≡ []
unfolding draws_from
draws-none key i count rest none = subst (λ (n : ℕ). draws_from key i n rest ≡ []) (sym none) refl

-- the next of some draws
draws-next : (key : List ℕ) (i count : ℕ) (rest : List Cell) → draws_from key i (suc count) rest
    ≡ get_or rest (draw_place key i rest) (cell_numbered 1 0) ∷ draws_from key (suc i) count
    (remove rest (draw_place key i rest))
unfolding draws_from
draws-next key i count rest = refl

-- the step of a loop that draws: what is drawn and what will be are all
pub draw_step : (key : List ℕ) (i count : ℕ) (rest after drawn drawn_after all : List Cell) (cell : Cell) → i < count
    → drawn ++ draws_from key i (count - i) rest ≡ all
    → cell ≡ get_or rest (draw_place key i rest) (cell_numbered 1 0) → after ≡ remove rest (draw_place key i rest)
    → drawn_after ≡ drawn ++ cell ∷ []
    → drawn_after ++ draws_from key (i + 1) (count - (i + 1)) after ≡ all
draw_step key i count rest after drawn drawn_after all cell h so_far is_cell is_after is_drawn =
    let more : count - i ≡ suc (count - (i + 1)) = omega arith in
    let next : i + 1 ≡ suc i = omega arith in
    ap₂ (λ (l m : List Cell). l ++ m) is_drawn (ap₂ (λ (n : ℕ) (l : List Cell). draws_from key n (count - (i + 1)) l) next is_after)
    ∙ append_assoc drawn (cell ∷ []) (draws_from key (suc i) (count - (i + 1)) (remove rest (draw_place key i rest)))
    ∙ ap (λ (c : Cell). drawn ++ c ∷ draws_from key (suc i) (count - (i + 1))
    (remove rest (draw_place key i rest))) is_cell
    ∙ sym (ap (λ (l : List Cell). drawn ++ l) (draws-next key i (count - (i + 1)) rest))
    ∙ sym (ap (λ (n : ℕ). drawn ++ draws_from key i n rest) more)
    ∙ so_far

-- at its start nothing is drawn
pub draw_start : (key : List ℕ) (count : ℕ) (rest drawn all : List Cell) → drawn ≡ [] → rest ≡ all
    → drawn ++ draws_from key 0 (count - 0) rest ≡ draws_from key 0 count all
draw_start key count rest drawn all none is_all =
    let same : count - 0 ≡ count = omega arith in
    ap₂ (λ (l m : List Cell). l ++ m) none (ap₂ (λ (n : ℕ) (l : List Cell). draws_from key 0 n l) same is_all)

-- at its end nothing is left to draw
pub draw_end : (key : List ℕ) (i count : ℕ) (rest drawn all : List Cell) → count ≤ i
    → drawn ++ draws_from key i (count - i) rest ≡ all → drawn ≡ all
draw_end key i count rest drawn all h so_far =
    sym (append-nil drawn) ∙ sym (ap (λ (l : List Cell). drawn ++ l) (draws-none key i (count - i) rest (omega arith))) ∙ so_far

-- ---- all cells of a square

-- there are 4k² of them
pub length-all : (k : ℕ) → length (all_cells k) ≡ 2 * k * (2 * k)
length-all k =
    length-map (ascending 0 (2 * k * (2 * k))) (cell_numbered (2 * k)) ∙ length-ascending (2 * k * (2 * k)) 0

-- two cells of which one is before the other are two
before_other : (a b : Cell) → is_before a b ≡ true → a ≢ b
before_other a b before same =
    let itself : is_before b b ≡ true =
    subst (λ (x : Cell). is_before x b ≡ true) same before in grind (arith, nat_tests)

module _ (in_row : ℕ) (order : (less more : ℕ) → less < more → is_before (cell_numbered in_row less) (cell_numbered in_row more) ≡ true) where
  -- the cell with a number isn't among those with higher ones
  lower_none : (n number first : ℕ) → number < first
      → AllByRecursion (λ cell. cell_numbered in_row number ≢ cell) (map (cell_numbered in_row) (ascending first n))
  unfolding ascending
  lower_none zero number first h = tt
  lower_none (suc n) number first h = (
    before_other (cell_numbered in_row number) (cell_numbered in_row first)
        (order number first h),
    lower_none n number (suc first) (omega arith),
  )

  -- so cells whose numbers count up have no repeat
  pub once_numbered : (n first : ℕ) → AreOnce (map (cell_numbered in_row) (ascending first n))
  unfolding ascending
  once_numbered zero first = tt
  once_numbered (suc n) first = (lower_none n first (suc first) (omega arith), once_numbered n (suc first))

module _ (key : List ℕ) (k count : ℕ) (cells : List Cell) (drawn : cells ≡ drawn_cells key k count) where
  -- there are as many as are drawn
  pub drawn_count : length cells ≡ count
  drawn_count = ap length drawn ∙ length-draws key count 0 (all_cells k)

  -- no cell is drawn twice
  pub drawn_apart : count ≤ 2 * k * (2 * k)
      → ((in_row less more : ℕ) → less < more → is_before (cell_numbered in_row less)
      (cell_numbered in_row more) ≡ true) → AreApart cells
  drawn_apart enough order =
      subst AreApart (sym drawn)
      (once_apart (drawn_cells key k count)
      (once_drawn key count 0 (all_cells k) (once_numbered (2 * k) (order (2 * k)) (2 * k * (2 * k)) 0)
      (omega (arith, length-all k))))

  -- each is one of the square
  pub drawn_inside : count ≤ 2 * k * (2 * k) → are_cells k (all_cells k) ≡ true → list_all (is_in_square k) cells ≡ true
  drawn_inside enough are =
      let outer = and_parts (is_width k && list_all (is_in_square k) (all_cells k))
      (holds_along is_before (all_cells k)) are in
      let inner = and_parts (is_width k) (list_all (is_in_square k) (all_cells k)) outer.0 in
      subst (λ (l : List Cell). list_all (is_in_square k) l ≡ true) (sym drawn)
      (tested_all (is_in_square k) (drawn_cells key k count)
      (all_drawn (λ cell. is_in_square k cell ≡ true) key count 0 (all_cells k)
      (all_tested (is_in_square k) (all_cells k) inner.1) (omega (arith, length-all k))))
