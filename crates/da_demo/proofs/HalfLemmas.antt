-- The cells of a square from the last one back, and the samples of half of them.
use Rattle.std.proofs.Common.{◌≡◌, ◌∙◌, ℕ, suc, ◌+◌, ◌-◌, ◌*◌, ◌<◌, ◌≤◌, true, mul-le-mul, List, [], ◌∷◌, ◌++◌, map, reverse, filter, append_assoc, append-nil, sym, ap, subst, arith}
use Rattle.std.proofs.lemmas.List.{map-append, reverse-append}
use Rattle.std.proofs.lemmas.List.Elements.{filter-append}
use Rattle.namespace_id.specs.declared.cells.Cell.{Cell}
use Rattle.namespace_id.specs.declared.shares.Share.{Share}
use Rattle.namespace_id.specs.Cells.{is_width, cell_numbered}
use Rattle.namespace_id.specs.Sizes.{greatest_width, most_leaves}
use Rattle.namespace_id.proofs.WidthLemmas.{is_width-le}
use Rattle.data_header.specs.Headers.{Roots}
use Rattle.da_demo.specs.declared.gathering.Gathered.{Gathered}
use Rattle.da_demo.specs.Gathered.{IsGathered}
use Rattle.namespace_id.specs.Lists.{ascending}
use Rattle.axis_roots.specs.declared.message.messages.Message.{Message}
use Rattle.axis_roots.specs.Trees.{message_at}
use Rattle.da_demo.specs.Sessions.{is_even, axis_of, half_among, lies_of, first_messages}

-- so many cells from a number on, backwards
abbrev pub cells_back : ℕ → ℕ → ℕ → List Cell
cells_back k left count = reverse (map (cell_numbered (2 * k)) (ascending left count))

-- one more of them
back_more : (k left count : ℕ)
    → cells_back k left (suc count) ≡ cells_back k (suc left) count ++ cell_numbered (2 * k) left ∷ []
unfolding ascending
back_more k left count =
    reverse-append (cell_numbered (2 * k) left ∷ []) (map (cell_numbered (2 * k)) (ascending (suc left) count))

-- the samples of half of these cells and of one more
half_more : (k : ℕ) (grid : List Share) (cells : List Cell) (cell : Cell)
    → half_among k grid (cells ++ cell ∷ []) ≡ half_among k grid cells ++ half_among k grid (cell ∷ [])
half_more k grid cells cell =
    ap (map (λ c. message_at k grid c (axis_of c))) (filter-append is_even cells (cell ∷ []))
    ∙ map-append (λ c. message_at k grid c (axis_of c)) (filter is_even cells) (filter is_even (cell ∷ []))

-- the samples of the first session as far as the cells from a number on
abbrev pub first_from : ℕ → List Share → ℕ → List Message
first_from k grid left = lies_of k grid ++ half_among k grid (cells_back k left (2 * k * (2 * k) - left))

-- with all cells to come these are the lies
pub first_none : (k : ℕ) (grid : List Share) (left : ℕ) → left ≡ 2 * k * (2 * k)
    → lies_of k grid ≡ first_from k grid left
unfolding ascending
first_none k grid left all =
    let none : 2 * k * (2 * k) - left ≡ 0 = omega arith in
    sym (append-nil (lies_of k grid))
    ∙ ap (λ (n : ℕ). lies_of k grid ++ half_among k grid (cells_back k left n)) (sym none)

-- one more cell
pub first_more : (k : ℕ) (grid : List Share) (left before : ℕ) → left + 1 ≡ before → left < 2 * k * (2 * k)
    → first_from k grid before ++ half_among k grid (cell_numbered (2 * k) left ∷ []) ≡ first_from k grid left
first_more k grid left before next within =
    let total : ℕ = 2 * k * (2 * k) in
    let cell : Cell = cell_numbered (2 * k) left in
    let start : before ≡ suc left = omega arith in
    let count : total - left ≡ suc (total - before) = omega arith in
    append_assoc (lies_of k grid) (half_among k grid (cells_back k before (total - before)))
    (half_among k grid (cell ∷ []))
    ∙ ap (λ (l : List Message). lies_of k grid ++ l)
    (sym (half_more k grid (cells_back k before (total - before)) cell))
    ∙ ap (λ (b : ℕ). lies_of k grid ++ half_among k grid (cells_back k b (total - before) ++ cell ∷ [])) start
    ∙ ap (λ (cells : List Cell). lies_of k grid ++ half_among k grid cells) (sym (back_more k left (total - before)))
    ∙ ap (λ (n : ℕ). lies_of k grid ++ half_among k grid (cells_back k left n)) (sym count)

-- with none to come they are all
pub first_all : (k : ℕ) (grid : List Share) (left : ℕ) → left ≡ 0 → first_from k grid left ≡ first_messages k grid
first_all k grid left none =
    let count : 2 * k * (2 * k) - 0 ≡ 2 * k * (2 * k) = omega arith in
    ap (first_from k grid) none
    ∙ ap (λ (n : ℕ). lies_of k grid ++ half_among k grid (cells_back k 0 n)) count

-- the sample of one more cell is taken in
pub half_next : (header : Roots) (k : ℕ) (grid : List Share) (old new : Gathered) (left before in_row : ℕ) (cell : Cell)
    → cell ≡ cell_numbered in_row left → in_row ≡ 2 * k → left + 1 ≡ before → left < 2 * k * (2 * k)
    → IsGathered header (first_from k grid before) old
    → ((ms : List Message) → IsGathered header ms old → IsGathered header (ms ++ half_among k grid (cell ∷ [])) new)
    → IsGathered header (first_from k grid left) new
half_next header k grid old new left before in_row cell is wide next within had taken =
    let here : cell ≡ cell_numbered (2 * k) left = is ∙ ap (λ (n : ℕ). cell_numbered n left) wide in
    subst (λ (ms : List Message). IsGathered header ms new)
    (ap (λ (c : Cell). first_from k grid before ++ half_among k grid (c ∷ [])) here
    ∙ first_more k grid left before next within)
    (taken (first_from k grid before) had)

-- a square has few cells
pub few_cells : (k : ℕ) → is_width k ≡ true → 2 * k * (2 * k) ≤ most_leaves * most_leaves
few_cells k width =
    let wide : k ≤ greatest_width = is_width-le k width in
    let side : 2 * k ≤ most_leaves = omega arith in
    mul-le-mul side side
