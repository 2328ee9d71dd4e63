-- How many samples are kept: of the cells of a row, and of all.
use Rattle.std.proofs.Common.{◌≡◌, ◌≢◌, ◌∙◌, ℕ, zero, suc, ◌+◌, ◌*◌, ◌<◌, ◌≤◌, Bool, true, false, not, refl, ap, ap₂, subst, sym, inl, inr, arith}
use Rattle.std.specs.Prelude.{is_some, None}
use Rattle.std.proofs.lemmas.Bool.{cases_eq}
use Rattle.namespace_id.specs.declared.cells.Cell.{Cell}
use Rattle.namespace_id.specs.declared.cells.Axis.{Axis}
use Rattle.namespace_id.specs.declared.cells.Axis.TheVariants.{Row, Col}
use Rattle.namespace_id.specs.Cells.{is_in_square}
use Rattle.axis_roots.specs.declared.message.proved.Proved.{Proved}
use Rattle.axis_roots.specs.Lines.{cell_on}
use Rattle.axis_roots.proofs.Grids.AxisLemmas.{cell_on-own}
use Rattle.axis_roots.proofs.Grids.NumberLemmas.{index-lt, position-lt}
use Rattle.repair_queue.specs.Slots.{Kept, Flags, IsPut}
use Rattle.repair_queue.specs.Counting.{one_if, count_from, sum_below}
use Rattle.repair_queue.specs.Pools.{samples_along, samples_of_row, samples_of_all}
use Rattle.repair_queue.specs.Boards.{is_lined, is_found, found_count, AreAtRest}
use Rattle.repair_queue.proofs.Counting.CountedLemmas.{count_from-same, count_from-more, count_from-none}
use Rattle.repair_queue.proofs.Lines.LinedLemmas.{lined_off, found_some}

-- ---- sums

-- sums of the same numbers are one
sum_below-same : (f g : ℕ → ℕ) (n : ℕ) → ((j : ℕ) → j < n → g j ≡ f j) → sum_below g n ≡ sum_below f n
unfolding sum_below
sum_below-same f g zero same = refl
sum_below-same f g (suc n) same = ap₂ (λ (a b : ℕ). a + b) (same n (omega arith)) (sum_below-same f g n (λ j h. same j (omega arith)))

-- where one number is greater by one, so is the sum
sum_below-more : (f g : ℕ → ℕ) (n i : ℕ) → i < n → g i ≡ f i + 1 → ((j : ℕ) → j ≢ i → g j ≡ f j) → sum_below g n ≡ sum_below f n + 1
unfolding sum_below
sum_below-more f g zero i below more same = absurd (omega arith)
sum_below-more f g (suc n) i below more same = elim (cases_eq n i) [
  | inl e ↦
      let here : g n ≡ f n + 1 = subst (λ (j : ℕ). g j ≡ f j + 1) (sym e) more in
      let rest : sum_below g n ≡ sum_below f n = sum_below-same f g n (λ j h. same j (λ (x : j ≡ i). absurd (omega arith))) in omega arith
  | inr apart ↦
      let here : g n ≡ f n = same n apart in
      let rest : sum_below g n ≡ sum_below f n + 1 = sum_below-more f g n i (omega arith) more same in omega arith
]

-- the sum of n numbers below m is below their product by n at least
pub sum_below-lt : (f : ℕ → ℕ) (n m : ℕ) → ((j : ℕ) → j < n → f j < m) → sum_below f n + n ≤ n * m
unfolding sum_below
sum_below-lt f zero m few = omega arith
sum_below-lt f (suc n) m few =
    let here : f n < m = few n (omega arith) in
    let rest : sum_below f n + n ≤ n * m = sum_below-lt f n m (λ j h. few j (omega arith)) in omega arith

-- the sum of zeros
sum_below-none : (f : ℕ → ℕ) (n : ℕ) → ((j : ℕ) → f j ≡ 0) → sum_below f n ≡ 0
unfolding sum_below
sum_below-none f zero none = refl
sum_below-none f (suc n) none = let here : f n ≡ 0 = none n in let rest : sum_below f n ≡ 0 = sum_below-none f n none in omega arith

-- ---- at the start

module _ (k : ℕ) (slot : Kept) (empty : (axis : Axis) (cell : Cell) → slot axis cell ≡ None) where
  -- where nothing is kept no row has samples
  pub no_samples : (row : ℕ) → samples_of_row k slot row ≡ 0
  no_samples row =
      ap₂ (λ (a b : ℕ). a + b) (count_from-none (λ col. is_some (slot Row (cell_on Row row col))) (2 * k) 0 (λ q. ap is_some (empty Row (cell_on Row row q))))
      (count_from-none (λ col. is_some (slot Col (cell_on Row row col))) (2 * k) 0 (λ q. ap is_some (empty Col (cell_on Row row q))))

  pub no_samples_of_all : samples_of_all k slot ≡ 0
  no_samples_of_all = sum_below-none (samples_of_row k slot) (2 * k) no_samples

-- ---- a sample more

module _ (k : ℕ) (old new : Kept) where
  -- along its axis its row has one more
  along_more : (axis : Axis) (cell : Cell) (kept : Proved) → is_in_square k cell ≡ true → IsPut old new axis cell kept → old axis cell ≡ None
      → samples_along k new axis cell.row ≡ samples_along k old axis cell.row + 1
  along_more axis cell kept within put empty =
      let own : cell_on Row cell.row cell.col ≡ cell = cell_on-own Row cell in
      let below : cell.col < 2 * k = position-lt k Row cell within in
      let more : samples_along k new axis cell.row ≡ samples_along k old axis cell.row + one_if (not (is_some (old axis (cell_on Row cell.row cell.col)))) =
      count_from-more (λ col. is_some (old axis (cell_on Row cell.row col))) (λ col. is_some (new axis (cell_on Row cell.row col))) (2 * k) 0 cell.col
      (omega arith) (omega arith) (ap (λ (c : Cell). is_some (new axis c)) own ∙ ap is_some put.here)
      (λ q apart. ap is_some (put.elsewhere axis (cell_on Row cell.row q) (λ x. apart (ap (λ (c : Cell). c.col) x.1)))) in
      more ∙ ap (λ (b : Bool). samples_along k old axis cell.row + one_if (not b)) (ap (λ (c : Cell). is_some (old axis c)) own ∙ ap is_some empty)

  -- where none of a row's cells changed, it has as many
  along_same : (axis : Axis) (row : ℕ) → ((col : ℕ) → new axis (cell_on Row row col) ≡ old axis (cell_on Row row col)) → samples_along k new axis row ≡ samples_along k old axis row
  along_same axis row same =
      count_from-same (λ col. is_some (old axis (cell_on Row row col))) (λ col. is_some (new axis (cell_on Row row col))) (2 * k) 0
      (λ q low high. ap is_some (same q))

  -- its row has one more
  pub row_more : (axis : Axis) (cell : Cell) (kept : Proved) → is_in_square k cell ≡ true → IsPut old new axis cell kept → old axis cell ≡ None
      → samples_of_row k new cell.row ≡ samples_of_row k old cell.row + 1
  row_more Row cell kept within put empty =
      let own : samples_along k new Row cell.row ≡ samples_along k old Row cell.row + 1 = along_more Row cell kept within put empty in
      let cross : samples_along k new Col cell.row ≡ samples_along k old Col cell.row =
      along_same Col cell.row (λ col. put.elsewhere Col (cell_on Row cell.row col) (λ x. let e : Col ≡ Row = x.0 in absurd cc)) in
      omega (arith, own, cross)
  row_more Col cell kept within put empty =
      let own : samples_along k new Col cell.row ≡ samples_along k old Col cell.row + 1 = along_more Col cell kept within put empty in
      let cross : samples_along k new Row cell.row ≡ samples_along k old Row cell.row =
      along_same Row cell.row (λ col. put.elsewhere Row (cell_on Row cell.row col) (λ x. let e : Row ≡ Col = x.0 in absurd cc)) in
      omega (arith, own, cross)

  module _ (axis : Axis) (cell : Cell) (kept : Proved) (put : IsPut old new axis cell kept) where
    -- other rows have as many
    pub row_same : (row : ℕ) → row ≢ cell.row → samples_of_row k new row ≡ samples_of_row k old row
    row_same row apart =
        ap₂ (λ (a b : ℕ). a + b) (along_same Row row (λ col. put.elsewhere Row (cell_on Row row col) (λ x. apart (ap (λ (c : Cell). c.row) x.1))))
        (along_same Col row (λ col. put.elsewhere Col (cell_on Row row col) (λ x. apart (ap (λ (c : Cell). c.row) x.1))))

    module _ (within : is_in_square k cell ≡ true) (empty : old axis cell ≡ None) where
      -- all have one more
      pub all_more : samples_of_all k new ≡ samples_of_all k old + 1
      all_more =
          sum_below-more (samples_of_row k old) (samples_of_row k new) (2 * k) cell.row (index-lt k Row cell within)
          (row_more axis cell kept within put empty) row_same

      -- and each row has few, where this one had room for it
      pub rows_few : ((row : ℕ) → row < 2 * k → samples_of_row k old row < 2 * k) → samples_of_row k old cell.row + 1 < 2 * k
          → (row : ℕ) → row < 2 * k → samples_of_row k new row < 2 * k
      rows_few few room row below = elim (cases_eq row cell.row) [
        | inl e ↦
            let here : samples_of_row k new cell.row < 2 * k = subst (λ (n : ℕ). n < 2 * k) (sym (row_more axis cell kept within put empty)) room in
            subst (λ (r : ℕ). samples_of_row k new r < 2 * k) (sym e) here
        | inr apart ↦ subst (λ (n : ℕ). n < 2 * k) (sym (row_same row apart)) (few row below)
      ]

-- ---- at rest

-- where one test holds wherever another does, no fewer numbers pass it
one_weaker : (a b : Bool) → (a ≡ true → b ≡ true) → one_if a ≤ one_if b
one_weaker false b weaker = omega arith
one_weaker true b weaker = let e : one_if b ≡ 1 = ap one_if (weaker refl) in omega arith

count_from-weaker : (f g : ℕ → Bool) (n first : ℕ) → ((q : ℕ) → f q ≡ true → g q ≡ true) → count_from f first n ≤ count_from g first n
unfolding count_from
count_from-weaker f g zero first weaker = omega arith
count_from-weaker f g (suc n) first weaker =
    let here : one_if (f first) ≤ one_if (g first) = one_weaker (f first) (g first) (weaker first) in
    let rest : count_from f (suc first) n ≤ count_from g (suc first) n = count_from-weaker f g n (suc first) weaker in omega arith

-- at most one sample along each axis is kept of each known cell
along_found : (k : ℕ) (slot : Kept) (flag : Flags) (axis : Axis) (row : ℕ) → samples_along k slot axis row ≤ found_count slot flag Row row (2 * k)
along_found k slot flag axis row =
    count_from-weaker (λ col. is_some (slot axis (cell_on Row row col))) (λ col. is_found slot flag (cell_on Row row col)) (2 * k) 0
    (λ q some. found_some slot flag axis (cell_on Row row q) some)

-- so there is room for one more of a cell on no decided row or column
pub rest_few : (k : ℕ) (slot : Kept) (flag : Flags) (cell : Cell) → is_in_square k cell ≡ true → AreAtRest k slot flag → is_lined flag cell ≡ false
    → samples_of_row k slot cell.row + 1 < 2 * k
rest_few k slot flag cell within rest off =
    let few : found_count slot flag Row cell.row (2 * k) < k = rest Row cell.row (index-lt k Row cell within) (lined_off flag Row cell off) in
    let rows : samples_along k slot Row cell.row ≤ found_count slot flag Row cell.row (2 * k) = along_found k slot flag Row cell.row in
    let cols : samples_along k slot Col cell.row ≤ found_count slot flag Row cell.row (2 * k) = along_found k slot flag Col cell.row in
    omega (arith, few, rows, cols)
