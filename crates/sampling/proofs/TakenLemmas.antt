-- What is left of a list, by the places that are taken.
use Rattle.std.proofs.Common.{◌≡◌, ◌∙◌, ℕ, zero, suc, ◌+◌, ◌-◌, ◌*◌, ◌<◌, ◌≤◌, List, [], ◌∷◌, length, get_or, map, Bool, false, nat_le, if◌then◌else◌, inl, inr, sym, ap, ap₂, arith}
use Rattle.std.specs.List.{insert, remove}
use Rattle.std.proofs.lemmas.Bool.{cases_lt, le-leb}
use Rattle.std.proofs.lemmas.Bool.Decides.{nat_tests}
use Rattle.std.proofs.lemmas.List.{length-map, get_or-map, ext_get_or}
use Rattle.std.proofs.lemmas.List.Edits.{length-insert, length-remove, get_or-remove_below, get_or-remove_above}
use Rattle.namespace_id.specs.declared.cells.Cell.{Cell}
use Rattle.namespace_id.specs.Cells.{cell_numbered, all_cells}
use Rattle.namespace_id.specs.Lists.{ascending}
use Rattle.namespace_id.proofs.AscendingLemmas.{length-ascending, get_or-ascending}
use Rattle.sampling.specs.Taken.{AscendFrom, passed, whole_place, with_taken, cells_left}

-- ---- one taken place

-- one that is passed
passed-on : (first place : ℕ) (taken : List ℕ) → first ≤ place → passed (first ∷ taken) place ≡ suc (passed taken (suc place))
unfolding passed
passed-on first place taken h =
    ap (λ (b : Bool). if b then suc (passed taken (suc place)) else 0) (le-leb first place h)

-- one that is behind the place
passed-none : (first place : ℕ) (taken : List ℕ) → place < first → passed (first ∷ taken) place ≡ 0
unfolding passed
passed-none first place taken h =
    let behind : nat_le first place ≡ false = grind (arith, nat_tests) in
    ap (λ (b : Bool). if b then suc (passed taken (suc place)) else 0) behind

-- so the place in the whole list is the one behind the passed
whole-on : (first place : ℕ) (taken : List ℕ) → first ≤ place → whole_place (first ∷ taken) place ≡ whole_place taken (suc place)
whole-on first place taken h = omega (arith, passed-on first place taken h)

-- or the same
whole-none : (first place : ℕ) (taken : List ℕ) → place < first → whole_place (first ∷ taken) place ≡ place
whole-none first place taken h = omega (arith, passed-none first place taken h)

-- a place goes behind what it passes
with-on : (first place : ℕ) (taken : List ℕ) → first ≤ place → with_taken (first ∷ taken) place ≡ first ∷ with_taken taken (suc place)
with-on first place taken h =
    ap₂ (λ (i n : ℕ). insert (first ∷ taken) i n) (passed-on first place taken h) (whole-on first place taken h)

-- and before the others
with-none : (first place : ℕ) (taken : List ℕ) → place < first → with_taken (first ∷ taken) place ≡ place ∷ first ∷ taken
with-none first place taken h =
    ap₂ (λ (i n : ℕ). insert (first ∷ taken) i n) (passed-none first place taken h) (whole-none first place taken h)

-- where none is taken it is the same
whole-empty : (place : ℕ) → whole_place [] place ≡ place
unfolding passed
whole-empty place = omega arith

-- ---- all taken places

-- no more are passed than there are
pub passed-le : (taken : List ℕ) (place : ℕ) → passed taken place ≤ length taken
unfolding passed
passed-le [] place = omega arith
passed-le (first ∷ taken) place = elim (cases_lt place first) [
  | inl behind ↦ omega (arith, passed-none first place taken behind)
  | inr on ↦ omega (arith, passed-on first place taken on, passed-le taken (suc place))
]

-- one more is taken
pub length-with : (taken : List ℕ) (place : ℕ) → length (with_taken taken place) ≡ length taken + 1
length-with taken place = length-insert taken (passed taken place) (whole_place taken place) (passed-le taken place)

-- they still ascend
pub taken_with : (taken : List ℕ) (least place : ℕ) → least ≤ place → AscendFrom least taken → AscendFrom least (with_taken taken place)
unfolding passed
taken_with [] least place h are = (omega (arith, h), tt)
taken_with (first ∷ taken) least place h are = elim (cases_lt place first) [
  | inl behind ↦ rw (with-none first place taken behind) (h, (omega (arith, behind), are.1))
  | inr on ↦ rw (with-on first place taken on) (are.0, taken_with taken (suc first) (suc place) (omega (arith, on)) are.1)
]

-- what stands before a place of the rest that is taken out stays where it was
whole_before : (taken : List ℕ) (place other : ℕ) → other < place → whole_place (with_taken taken place) other ≡ whole_place taken other
unfolding passed
whole_before [] place other h = whole-none (place + 0) other [] (omega (arith, h)) ∙ sym (whole-empty other)
whole_before (first ∷ taken) place other h = elim (cases_lt place first) [
  | inl behind ↦
      ap (λ (l : List ℕ). whole_place l other) (with-none first place taken behind)
      ∙ whole-none place other (first ∷ taken) h ∙ sym (whole-none first other taken (omega (arith, h, behind)))
  | inr on ↦
      ap (λ (l : List ℕ). whole_place l other) (with-on first place taken on)
      ∙ elim (cases_lt other first) [
        | inl early ↦ whole-none first other (with_taken taken (suc place)) early ∙ sym (whole-none first other taken early)
        | inr late ↦
            whole-on first other (with_taken taken (suc place)) late ∙ whole_before taken (suc place) (suc other) (omega (arith, h))
            ∙ sym (whole-on first other taken late)
      ]
]

-- what stands behind it moves up by one
whole_behind : (taken : List ℕ) (place other : ℕ) → place ≤ other → whole_place (with_taken taken place) other ≡ whole_place taken (suc other)
unfolding passed
whole_behind [] place other h = whole-on (place + 0) other [] (omega (arith, h))
whole_behind (first ∷ taken) place other h = elim (cases_lt place first) [
  | inl behind ↦
      ap (λ (l : List ℕ). whole_place l other) (with-none first place taken behind)
      ∙ whole-on place other (first ∷ taken) h
  | inr on ↦
      ap (λ (l : List ℕ). whole_place l other) (with-on first place taken on)
      ∙ whole-on first other (with_taken taken (suc place)) (omega (arith, on, h))
      ∙ whole_behind taken (suc place) (suc other) (omega (arith, h))
      ∙ sym (whole-on first (suc other) taken (omega (arith, on, h)))
]

-- ---- a search

-- each place has as many above the least as come before it
taken-ge : (taken : List ℕ) (least i : ℕ) → AscendFrom least taken → i < length taken → least + i ≤ get_or taken i 0
taken-ge [] least i are h = absurd (omega (arith, h))
taken-ge (first ∷ taken) least zero are h = omega (arith, are.0)
taken-ge (first ∷ taken) least (suc i) are h =
    omega (arith, are.0, taken-ge taken (suc first) i are.1 (omega (arith, h)))

-- where a place would be moved beyond a taken one, that one and those before it are passed
pub passed_beyond : (taken : List ℕ) (least place i : ℕ) → AscendFrom least taken → i < length taken → get_or taken i 0 ≤ place + i
    → i + 1 ≤ passed taken place
unfolding passed
passed_beyond [] least place i are h at = absurd (omega (arith, h))
passed_beyond (first ∷ taken) least place zero are h at = omega (arith, passed-on first place taken (omega (arith, at)))
passed_beyond (first ∷ taken) least place (suc i) are h at =
    let within : i < length taken = omega (arith, h) in
    let on : first ≤ place = omega (arith, taken-ge taken (suc first) i are.1 within, at) in
    omega (arith, passed-on first place taken on, passed_beyond taken (suc first) (suc place) i are.1 within (omega (arith, at)))

-- where it wouldn't, no other is passed than those before it
pub passed_within : (taken : List ℕ) (place i : ℕ) → i < length taken → place + i < get_or taken i 0 → passed taken place ≤ i
unfolding passed
passed_within [] place i h at = absurd (omega (arith, h))
passed_within (first ∷ taken) place zero h at = omega (arith, passed-none first place taken (omega (arith, at)))
passed_within (first ∷ taken) place (suc i) h at = elim (cases_lt place first) [
  | inl behind ↦ omega (arith, passed-none first place taken behind)
  | inr on ↦
      omega (arith, passed-on first place taken on, passed_within taken (suc place) i (omega (arith, h)) (omega (arith, at)))
]

-- ---- cells

-- so many cells are left
pub length-left : (in_row : ℕ) (taken : List ℕ) → length (cells_left in_row taken) ≡ in_row * in_row - length taken
length-left in_row taken =
    length-map (ascending 0 (in_row * in_row - length taken)) (λ place. cell_numbered in_row (whole_place taken place))
    ∙ length-ascending (in_row * in_row - length taken) 0

-- the cell at a place
pub left-at : (in_row : ℕ) (taken : List ℕ) (place : ℕ) (d : Cell) → place < length (cells_left in_row taken)
    → get_or (cells_left in_row taken) place d ≡ cell_numbered in_row (whole_place taken place)
left-at in_row taken place d h =
    let below : place < in_row * in_row - length taken = omega (arith, h, length-left in_row taken) in
    let start : 0 + place ≡ place = omega arith in
    get_or-map (λ place. cell_numbered in_row (whole_place taken place)) (ascending 0 (in_row * in_row - length taken)) place 0 d
    (omega (arith, below, length-ascending (in_row * in_row - length taken) 0))
    ∙ ap (λ (p : ℕ). cell_numbered in_row (whole_place taken p)) (get_or-ascending (in_row * in_row - length taken) 0 place below ∙ start)

-- before a cell is taken all are left
pub left-all : (k : ℕ) (taken : List ℕ) → taken ≡ [] → cells_left (2 * k) taken ≡ all_cells k
left-all k taken none =
    let count : 2 * k * (2 * k) - length {A = ℕ} [] ≡ 2 * k * (2 * k) = omega arith in
    ap (cells_left (2 * k)) none
    ∙ (λ i. map (λ place. cell_numbered (2 * k) (whole-empty place i)) (ascending 0 (count i)))

-- without the cell at a place the others are left
pub left-with : (in_row : ℕ) (taken : List ℕ) (place : ℕ) → place < length (cells_left in_row taken)
    → cells_left in_row (with_taken taken place) ≡ remove (cells_left in_row taken) place
left-with in_row taken place h =
    let d : Cell = cell_numbered 1 0 in
    let before : List Cell = cells_left in_row taken in
    let after : List Cell = cells_left in_row (with_taken taken place) in
    let long = length-left in_row taken in
    let less = length-remove before place h in
    let short : length after ≡ length before - 1 =
    omega (arith, length-left in_row (with_taken taken place), length-with taken place, long) in
    ext_get_or d after (remove before place) (omega (arith, short, less)) (λ i lt. elim (cases_lt i place) [
      | inl low ↦
          left-at in_row (with_taken taken place) i d lt
          ∙ ap (cell_numbered in_row) (whole_before taken place i low)
          ∙ sym (left-at in_row taken i d (omega (arith, low, h)))
          ∙ sym (get_or-remove_below before place d i low h)
      | inr high ↦
          let next : suc i ≡ i + 1 = omega arith in
          left-at in_row (with_taken taken place) i d lt
          ∙ ap (cell_numbered in_row) (whole_behind taken place i high ∙ ap (whole_place taken) next)
          ∙ sym (left-at in_row taken (i + 1) d (omega (arith, lt, short)))
          ∙ sym (get_or-remove_above before place d i high h)
    ])
