-- Counts of known cells: when a cell comes to be known, when a line is kept, and when none waits.
use Rattle.std.proofs.Common.{◌≡◌, ◌≢◌, ◌∙◌, ℕ, zero, suc, ◌+◌, ◌*◌, ◌<◌, ◌≤◌, List, [], Bool, true, false, not, refl, sym, ap, ap₂, subst, inl, inr, arith}
use Rattle.std.specs.Prelude.{is_some, ◌||◌, Some, None}
use Rattle.std.specs.List.{Contains}
use Rattle.std.proofs.lemmas.Bool.{cases_Bool, cases_eq, cases_lt, true≢false}
use Rattle.namespace_id.specs.declared.cells.Cell.{Cell}
use Rattle.namespace_id.specs.declared.cells.Axis.{Axis}
use Rattle.namespace_id.specs.declared.cells.Axis.TheVariants.{Row, Col}
use Rattle.namespace_id.specs.Cells.{is_in_square, crossing}
use Rattle.axis_roots.specs.Messages.{index, position}
use Rattle.axis_roots.specs.Lines.{cell_on}
use Rattle.axis_roots.proofs.Grids.AxisLemmas.{index-cell_on, position-cell_on, cell_on-own}
use Rattle.axis_roots.proofs.Grids.NumberLemmas.{position-lt}
use Rattle.repair_queue.specs.Closures.{AreChosen}
use Rattle.repair_queue.specs.Slots.{Kept, Flags, IsFlagged}
use Rattle.repair_queue.specs.Counting.{one_if, count_from}
use Rattle.repair_queue.specs.Counts.{Numbers}
use Rattle.repair_queue.specs.Boards.{is_lined, is_found, found_count, AreAtRest, AreCounted, AreWaiting}
use Rattle.repair_queue.specs.Keeping.{IsCountedTo}
use Rattle.namespace_id.proofs.MemberLemmas.{contains_none}
use Rattle.repair_queue.proofs.Counting.PassingLemmas.{chosen_counted}
use Rattle.repair_queue.proofs.Places.PlaceLemmas.{own_or_crossing}
use Rattle.repair_queue.proofs.Lines.LinedLemmas.{was_unset, lined_one, lined_else, lined_by, found_lined, found_how}

-- ---- numbers

-- numbers at which two tests agree are counted alike
pub count_from-same : (f g : ℕ → Bool) (n first : ℕ) → ((q : ℕ) → first ≤ q → q < first + n → g q ≡ f q) → count_from g first n ≡ count_from f first n
unfolding count_from
count_from-same f g zero first same = refl
count_from-same f g (suc n) first same =
    ap₂ (λ (b : Bool) (c : ℕ). one_if b + c) (same first (omega arith) (omega arith))
    (count_from-same f g n (suc first) (λ q low high. same q (omega arith) (omega arith)))

-- a test or its contrary
one_of : (b : Bool) → one_if b + one_if (not b) ≡ 1
one_of true = refl
one_of false = refl

-- where one number passes now
pub count_from-more : (f g : ℕ → Bool) (n first i : ℕ) → first ≤ i → i < first + n → g i ≡ true → ((q : ℕ) → q ≢ i → g q ≡ f q)
    → count_from g first n ≡ count_from f first n + one_if (not (f i))
unfolding count_from
count_from-more f g zero first i low high on same = absurd (omega arith)
count_from-more f g (suc n) first i low high on same = elim (cases_eq first i) [
  | inl e ↦
      let rest : count_from g (suc first) n ≡ count_from f (suc first) n =
      count_from-same f g n (suc first) (λ q l h. same q (λ (x : q ≡ i). absurd (omega arith))) in
      let now : one_if (g first) ≡ 1 = ap one_if (ap g e ∙ on) in
      let was : one_if (f first) + one_if (not (f i)) ≡ 1 = ap (λ (j : ℕ). one_if (f j) + one_if (not (f i))) e ∙ one_of (f i) in
      omega arith
  | inr apart ↦
      let here : one_if (g first) ≡ one_if (f first) = ap one_if (same first apart) in
      let rest : count_from g (suc first) n ≡ count_from f (suc first) n + one_if (not (f i)) =
      count_from-more f g n (suc first) i (omega arith) (omega arith) on same in
      omega arith
]

-- no more pass than there are
pub count_from-le : (f : ℕ → Bool) (n first : ℕ) → count_from f first n ≤ n
unfolding count_from
count_from-le f zero first = omega arith
count_from-le f (suc n) first =
    let rest : count_from f (suc first) n ≤ n = count_from-le f n (suc first) in
    let one : one_if (f first) + one_if (not (f first)) ≡ 1 = one_of (f first) in omega arith

-- and fewer where one doesn't
pub count_from-lt : (f : ℕ → Bool) (n first i : ℕ) → first ≤ i → i < first + n → f i ≡ false → count_from f first n < n
unfolding count_from
count_from-lt f zero first i low high off = absurd (omega arith)
count_from-lt f (suc n) first i low high off = elim (cases_eq first i) [
  | inl e ↦
      let here : one_if (f first) ≡ 0 = ap one_if (ap f e ∙ off) in
      let rest : count_from f (suc first) n ≤ n = count_from-le f n (suc first) in omega arith
  | inr apart ↦
      let one : one_if (f first) + one_if (not (f first)) ≡ 1 = one_of (f first) in
      let rest : count_from f (suc first) n < n = count_from-lt f n (suc first) i (omega arith) (omega arith) off in omega arith
]

-- ---- none waits

-- where each row and column that has k waits, and none does, those that aren't decided have fewer than k known cells
pub rest_counted : (k : ℕ) (slot : Kept) (flag : Flags) (counts : Numbers) → AreCounted k slot flag counts → AreWaiting k flag counts []
    → AreAtRest k slot flag
rest_counted k slot flag counts counted waiting axis i within off = elim (cases_lt (counts axis i) k) [
  | inl few ↦ subst (λ (n : ℕ). n < k) (counted axis i within off) few
  | inr many ↦ absurd (contains_none (axis, i) (waiting axis i within off (omega arith)))
]

-- so those with k known cells are decided
pub rest_decided : (k : ℕ) (slot : Kept) (flag : Flags) → AreAtRest k slot flag → (axis : Axis) (i : ℕ) (chosen : List ℕ) → i < 2 * k → AreChosen k chosen
    → ((p : ℕ) → Contains chosen p → is_found slot flag (cell_on axis i p) ≡ true) → flag axis i ≡ true
rest_decided k slot flag rest axis i chosen within are known = elim (cases_Bool (flag axis i)) [
  | inl on ↦ on
  | inr off ↦
      let many : k ≤ found_count slot flag axis i (2 * k) = chosen_counted (λ pos. is_found slot flag (cell_on axis i pos)) k chosen are known in
      let few : found_count slot flag axis i (2 * k) < k = rest axis i within off in absurd (omega arith)
]

-- ---- a line that is kept

-- another cell of a row or a column that isn't this one
apart_cell : (axis : Axis) (i j pos : ℕ) → (j ≡ i → ⊥) → index axis (cell_on axis j pos) ≡ i → ⊥
apart_cell axis i j pos apart e = apart (sym (index-cell_on axis j pos) ∙ e)

-- a cell of a crossing one lies on it at one position only
crossing_index : (axis : Axis) (j pos : ℕ) → index axis (cell_on (crossing axis) j pos) ≡ pos
crossing_index Row j pos = refl
crossing_index Col j pos = refl

-- a cell of a row or column is one of the crossing one at its position
pub crossing_cell : (axis : Axis) (i j : ℕ) → cell_on (crossing axis) j i ≡ cell_on axis i j
crossing_cell Row i j = refl
crossing_cell Col i j = refl

module _ (k : ℕ) (slot : Kept) (flag raised : Flags) (axis : Axis) (i : ℕ) (flagged : IsFlagged flag raised axis i) (within : i < 2 * k) where
  -- a cell that isn't on the row or column is known as before
  found_else : (cell : Cell) → (index axis cell ≡ i → ⊥) → is_found slot raised cell ≡ is_found slot flag cell
  found_else cell off = ap (λ (b : Bool). b || is_some (slot Row cell) || is_some (slot Col cell)) (lined_else flag raised axis i flagged cell off)

  -- counts of the same kind stay
  count_own : (j : ℕ) → (j ≡ i → ⊥) → found_count slot raised axis j (2 * k) ≡ found_count slot flag axis j (2 * k)
  count_own j apart =
      count_from-same (λ pos. is_found slot flag (cell_on axis j pos)) (λ pos. is_found slot raised (cell_on axis j pos)) (2 * k) 0
      (λ q low high. found_else (cell_on axis j q) (apart_cell axis i j q apart))

  -- those of crossing ones have one more where its cell wasn't known
  count_across : (j : ℕ) → found_count slot raised (crossing axis) j (2 * k)
      ≡ found_count slot flag (crossing axis) j (2 * k) + one_if (not (is_found slot flag (cell_on axis i j)))
  count_across j =
      let more : found_count slot raised (crossing axis) j (2 * k)
      ≡ found_count slot flag (crossing axis) j (2 * k) + one_if (not (is_found slot flag (cell_on (crossing axis) j i))) =
      count_from-more (λ pos. is_found slot flag (cell_on (crossing axis) j pos)) (λ pos. is_found slot raised (cell_on (crossing axis) j pos)) (2 * k) 0 i
      (omega arith) (omega arith)
      (found_lined slot raised (cell_on (crossing axis) j i)
      (lined_by raised axis (cell_on (crossing axis) j i) (ap (raised axis) (crossing_index axis j i) ∙ flagged.here)))
      (λ q apart. found_else (cell_on (crossing axis) j q) (λ e. apart (sym (crossing_index axis j q) ∙ e))) in
      more ∙ ap (λ (c : Cell). found_count slot flag (crossing axis) j (2 * k) + one_if (not (is_found slot flag c))) (crossing_cell axis i j)

  module _ (old new : Numbers) (before after : List (Axis × ℕ)) (counted_in : IsCountedTo k slot flag axis i old new before after (2 * k)) where
    -- so the counts are right
    pub kept_counted : AreCounted k slot flag old → AreCounted k slot raised new
    kept_counted counted other j below off =
        let was : flag other j ≡ false = was_unset flag raised axis i flagged other j off in
        elim (own_or_crossing other axis) [
          | inl own ↦
              let apart : j ≡ i → ⊥ =
              λ e. true≢false (sym flagged.here ∙ ap (raised axis) (sym e) ∙ ap (λ (a : Axis). raised a j) (sym own) ∙ off) in
              let there : new axis j ≡ found_count slot raised axis j (2 * k) =
              counted_in.own j ∙ counted axis j below (ap (λ (a : Axis). flag a j) (sym own) ∙ was) ∙ sym (count_own j apart) in
              subst (λ (a : Axis). new a j ≡ found_count slot raised a j (2 * k)) (sym own) there
          | inr across ↦
              let there : new (crossing axis) j ≡ found_count slot raised (crossing axis) j (2 * k) =
              counted_in.across j below
              ∙ ap (λ (n : ℕ). n + one_if (not (is_found slot flag (cell_on axis i j)))) (counted (crossing axis) j below (ap (λ (a : Axis). flag a j) (sym across) ∙ was))
              ∙ sym (count_across j) in
              subst (λ (a : Axis). new a j ≡ found_count slot raised a j (2 * k)) (sym across) there
        ]

    -- and those with k wait
    pub kept_waiting : AreWaiting k flag old before → AreWaiting k raised new after
    kept_waiting waiting other j below off many =
        let was : flag other j ≡ false = was_unset flag raised axis i flagged other j off in
        elim (cases_lt (old other j) k) [
          | inl few ↦ counted_in.queued.come other j few many
          | inr enough ↦ counted_in.queued.stay (other, j) (waiting other j below was (omega arith))
        ]

-- ---- a cell that comes to be known

-- a cell is known now, and no other changed
pub record IsFoundNow (flag : Flags) (old new : Kept) (cell : Cell) : Type 0 where
  pub was : is_found old flag cell ≡ false
  pub is : is_found new flag cell ≡ true
  pub elsewhere : (other : Cell) → (other ≡ cell → ⊥) → is_found new flag other ≡ is_found old flag other

-- a row or column without the cell, and one with it
not_on : (axis : Axis) (j pos : ℕ) (cell : Cell) → (j ≡ index axis cell → ⊥) → cell_on axis j pos ≡ cell → ⊥
not_on axis j pos cell apart e = apart (sym (index-cell_on axis j pos) ∙ ap (index axis) e)

module _ (k : ℕ) (flag : Flags) (old new : Kept) (cell : Cell) (inside : is_in_square k cell ≡ true) (x : IsFoundNow flag old new cell) where
  -- counts of others stay
  pub count_off : (axis : Axis) (j : ℕ) → (j ≡ index axis cell → ⊥) → found_count new flag axis j (2 * k) ≡ found_count old flag axis j (2 * k)
  count_off axis j apart =
      count_from-same (λ pos. is_found old flag (cell_on axis j pos)) (λ pos. is_found new flag (cell_on axis j pos)) (2 * k) 0
      (λ q low high. x.elsewhere (cell_on axis j q) (not_on axis j q cell apart))

  -- those through it are one more
  pub count_on : (axis : Axis) → found_count new flag axis (index axis cell) (2 * k) ≡ found_count old flag axis (index axis cell) (2 * k) + 1
  count_on axis =
      let i : ℕ = index axis cell in
      let p : ℕ = position axis cell in
      let own : cell_on axis i p ≡ cell = cell_on-own axis cell in
      let below : p < 2 * k = position-lt k axis cell inside in
      let more : found_count new flag axis i (2 * k) ≡ found_count old flag axis i (2 * k) + one_if (not (is_found old flag (cell_on axis i p))) =
      count_from-more (λ pos. is_found old flag (cell_on axis i pos)) (λ pos. is_found new flag (cell_on axis i pos)) (2 * k) 0 p (omega arith) (omega arith)
      (ap (is_found new flag) own ∙ x.is)
      (λ q apart. x.elsewhere (cell_on axis i q) (λ e. apart (sym (position-cell_on axis i q) ∙ ap (position axis) e))) in
      more ∙ ap (λ (b : Bool). found_count old flag axis i (2 * k) + one_if (not b)) (ap (is_found old flag) own ∙ x.was)

-- fewer than all cells of a row or a column through an unknown one are known
pub count_few : (k : ℕ) (flag : Flags) (slot : Kept) (cell : Cell) → is_in_square k cell ≡ true → is_found slot flag cell ≡ false → (axis : Axis)
    → found_count slot flag axis (index axis cell) (2 * k) < 2 * k
count_few k flag slot cell inside was axis =
    count_from-lt (λ pos. is_found slot flag (cell_on axis (index axis cell) pos)) (2 * k) 0 (position axis cell) (omega arith)
    (let below : position axis cell < 2 * k = position-lt k axis cell inside in omega arith)
    (ap (is_found slot flag) (cell_on-own axis cell) ∙ was)

-- ---- at the start

-- where nothing is decided no cell lies on a decided row or column
pub nothing_lined : (flag : Flags) → ((axis : Axis) (i : ℕ) → flag axis i ≡ false) → (cell : Cell) → is_lined flag cell ≡ false
nothing_lined flag off cell = elim (cases_Bool (is_lined flag cell)) [
  | inl on ↦ let one = lined_one flag cell on in absurd (true≢false (sym one.1 ∙ off one.0 (index one.0 cell)))
  | inr is ↦ is
]

-- where nothing is kept either no cell is known
pub nothing_found : (slot : Kept) (flag : Flags) → ((axis : Axis) (cell : Cell) → slot axis cell ≡ None) → ((axis : Axis) (i : ℕ) → flag axis i ≡ false)
    → (cell : Cell) → is_found slot flag cell ≡ false
nothing_found slot flag empty off cell = elim (cases_Bool (is_found slot flag cell)) [
  | inl is ↦ elim (found_how slot flag cell is) [
    | inl on ↦ absurd (true≢false (sym on ∙ nothing_lined flag off cell))
    | inr (axis, kept, e) ↦ let none : None ≡ Some kept = sym (empty axis cell) ∙ e in absurd cc
  ]
  | inr not_found ↦ not_found
]

-- none is counted where none passes
pub count_from-none : (f : ℕ → Bool) (n first : ℕ) → ((q : ℕ) → f q ≡ false) → count_from f first n ≡ 0
unfolding count_from
count_from-none f zero first none = refl
count_from-none f (suc n) first none = let here : one_if (f first) ≡ 0 = ap one_if (none first) in let rest : count_from f (suc first) n ≡ 0 = count_from-none f n (suc first) none in omega arith

pub nothing_counted : (k : ℕ) (slot : Kept) (flag : Flags) (counts : Numbers) → ((axis : Axis) (cell : Cell) → slot axis cell ≡ None)
    → ((axis : Axis) (i : ℕ) → flag axis i ≡ false) → ((axis : Axis) (i : ℕ) → counts axis i ≡ 0) → AreCounted k slot flag counts
nothing_counted k slot flag counts empty off zeros axis i within low =
    zeros axis i ∙ sym (count_from-none (λ pos. is_found slot flag (cell_on axis i pos)) (2 * k) 0 (λ q. nothing_found slot flag empty off (cell_on axis i q)))

pub nothing_waiting : (k : ℕ) (flag : Flags) (counts : Numbers) (queue : List (Axis × ℕ)) → 0 < k → ((axis : Axis) (i : ℕ) → counts axis i ≡ 0)
    → AreWaiting k flag counts queue
nothing_waiting k flag counts queue some zeros axis i within low many = absurd (omega (arith, zeros axis i, many))

pub nothing_rests : (k : ℕ) (slot : Kept) (flag : Flags) → 0 < k → ((axis : Axis) (cell : Cell) → slot axis cell ≡ None)
    → ((axis : Axis) (i : ℕ) → flag axis i ≡ false) → AreAtRest k slot flag
nothing_rests k slot flag some empty off axis i within low =
    let none : 0 ≡ found_count slot flag axis i (2 * k) = nothing_counted k slot flag (λ a j. 0) empty off (λ a j. refl) axis i within low in omega arith
