-- Counting one cell more of a row or a column.
use Rattle.std.proofs.Common.{◌≡◌, ◌≢◌, ◌∙◌, ℕ, ◌+◌, ◌<◌, ◌≤◌, List, [], ◌∷◌, ◌++◌, length, get_or, set, drop, cond, Bool, true, false, refl, sym, ap, subst, inl, inr, arith, Vec, Global}
use Rattle.std.specs.Prelude.{nat_lt, vec_len}
use Rattle.std.specs.List.{Contains}
use Rattle.std.proofs.lemmas.Bool.{cases_lt}
use Rattle.std.proofs.lemmas.Bool.Decides.{nat_tests}
use Rattle.std.proofs.lemmas.List.{get_or-set_same, get_or-set_other, length-set, drop-append-le}
use Rattle.std.proofs.lemmas.List.Sums.{sum_by-set}
use Rattle.std.proofs.lemmas.List.Elements.{Contains-append_left, Contains-append_right}
use Rattle.namespace_id.specs.declared.cells.Axis.{Axis}
use Rattle.namespace_id.specs.declared.cells.Axis.TheVariants.{Row, Col}
use Rattle.namespace_id.proofs.MemberLemmas.{contains_head}
use Rattle.repair_queue.specs.Counting.{low}
use Rattle.repair_queue.specs.Counts.{numbers_of, AreQueued, IsOneMore}
use Rattle.repair_queue.proofs.Places.PlaceLemmas.{same_line}

-- 1 where a test holds
abbrev pub one_true : Bool → ℕ
one_true b = cond b 1 0

-- a number that is set to one more: there is one less below k where it is k then
low_falls : (k : ℕ) (l : List ℕ) (i n : ℕ) → i < length l → n ≡ get_or l i 0 + 1 → n ≡ k → low k (set l i n) + 1 ≡ low k l
low_falls k l i n below more is =
    let was_low : nat_lt (get_or l i 0) k ≡ true = grind (arith, nat_tests) in
    let is_not : nat_lt n k ≡ false = grind (arith, nat_tests) in
    let sums : low k (set l i n) + one_true (nat_lt (get_or l i 0) k) ≡ low k l + one_true (nat_lt n k) =
    sum_by-set (λ (x : ℕ). one_true (nat_lt x k)) l i n 0 below in
    omega (arith, sums, ap one_true was_low, ap one_true is_not)

-- and else as many
low_stays : (k : ℕ) (l : List ℕ) (i n : ℕ) → i < length l → n ≡ get_or l i 0 + 1 → n ≢ k → low k (set l i n) ≡ low k l
low_stays k l i n below more isnt = elim (cases_lt n k) [
  | inl under ↦
      let was_low : nat_lt (get_or l i 0) k ≡ true = grind (arith, nat_tests) in
      let is_low : nat_lt n k ≡ true = grind (arith, nat_tests) in
      let sums : low k (set l i n) + one_true (nat_lt (get_or l i 0) k) ≡ low k l + one_true (nat_lt n k) =
      sum_by-set (λ (x : ℕ). one_true (nat_lt x k)) l i n 0 below in
      omega (arith, sums, ap one_true was_low, ap one_true is_low)
  | inr past ↦
      let above : k < n = omega (arith, past, isnt) in
      let was_not : nat_lt (get_or l i 0) k ≡ false = grind (arith, nat_tests) in
      let is_not : nat_lt n k ≡ false = grind (arith, nat_tests) in
      let sums : low k (set l i n) + one_true (nat_lt (get_or l i 0) k) ≡ low k l + one_true (nat_lt n k) =
      sum_by-set (λ (x : ℕ). one_true (nat_lt x k)) l i n 0 below in
      omega (arith, sums, ap one_true was_not, ap one_true is_not)
]

-- a number of rows
pub row_more : (rows cols : List ℕ) (axis : Axis) (i more : ℕ) → axis ≡ Row → i < length rows → more ≡ numbers_of rows cols axis i + 1
    → IsOneMore rows cols (set rows i more) cols axis i more
row_more rows cols axis i more is below count =
    let number : more ≡ get_or rows i 0 + 1 = count ∙ ap (λ (a : Axis). numbers_of rows cols a i + 1) is in
    subst (λ (a : Axis). IsOneMore rows cols (set rows i more) cols a i more) (sym is) (record {
      row_count = length-set rows i more;
      col_count = refl;
      falls = λ k e. omega (arith, low_falls k rows i more below number e);
      stays = λ k apart. omega (arith, low_stays k rows i more below number apart);
      raised = record {
        here = get_or-set_same rows i more 0 below ∙ number;
        elsewhere = elim [
          | Row ↦ λ j apart. get_or-set_other rows i j more 0 (λ e. apart (refl, e))
          | Col ↦ λ j apart. refl
        ];
      };
    })

-- or of columns
pub col_more : (rows cols : List ℕ) (axis : Axis) (i more : ℕ) → axis ≡ Col → i < length cols → more ≡ numbers_of rows cols axis i + 1
    → IsOneMore rows cols rows (set cols i more) axis i more
col_more rows cols axis i more is below count =
    let number : more ≡ get_or cols i 0 + 1 = count ∙ ap (λ (a : Axis). numbers_of rows cols a i + 1) is in
    subst (λ (a : Axis). IsOneMore rows cols rows (set cols i more) a i more) (sym is) (record {
      row_count = refl;
      col_count = length-set cols i more;
      falls = λ k e. omega (arith, low_falls k cols i more below number e);
      stays = λ k apart. omega (arith, low_stays k cols i more below number apart);
      raised = record {
        here = get_or-set_same cols i more 0 below ∙ number;
        elsewhere = elim [
          | Row ↦ λ j apart. refl
          | Col ↦ λ j apart. get_or-set_other cols i j more 0 (λ e. apart (refl, e))
        ];
      };
    })

module _ (k : ℕ) (rows cols new_rows new_cols : List ℕ) (axis : Axis) (i more : ℕ) (x : IsOneMore rows cols new_rows new_cols axis i more) where
  -- where no number came to be k none more waits
  pub unqueued : more ≡ numbers_of rows cols axis i + 1 → more ≢ k → (waiting : List (Axis × ℕ))
      → AreQueued k (numbers_of rows cols) (numbers_of new_rows new_cols) waiting waiting
  unqueued is apart waiting = record {
    stay = λ y at. at;
    come = λ other j few many. elim (same_line other axis j i) [
      | inl (ea, ej) ↦
          let here : numbers_of new_rows new_cols other j ≡ numbers_of rows cols axis i + 1 =
          ap (λ (a : Axis). numbers_of new_rows new_cols a j) ea ∙ ap (numbers_of new_rows new_cols axis) ej ∙ x.raised.here in
          let same : numbers_of rows cols axis i ≡ numbers_of rows cols other j =
          sym (ap (λ (a : Axis). numbers_of rows cols a j) ea ∙ ap (numbers_of rows cols axis) ej) in
          absurd (apart (omega (arith, here, same, is, few, many)))
      | inr off ↦ absurd (omega (arith, x.raised.elsewhere other j off, few, many))
    ];
  }

  -- one that did waits
  pub queued : (next : ℕ) (queue : Vec (Axis × ℕ) Global) → next ≤ vec_len queue → (items : List (Axis × ℕ)) → items ≡ queue.items ++ (axis, i) ∷ []
      → AreQueued k (numbers_of rows cols) (numbers_of new_rows new_cols) (drop next queue.items) (drop next items)
  queued next queue taken items pushed =
      let waits : drop next items ≡ drop next queue.items ++ (axis, i) ∷ [] =
      ap (drop next) pushed ∙ drop-append-le next queue.items ((axis, i) ∷ []) (omega (arith, taken, queue.ok.0)) in record {
        stay = λ y at. subst (λ (l : List (Axis × ℕ)). Contains l y) (sym waits) (Contains-append_left (drop next queue.items) ((axis, i) ∷ []) y at);
        come = λ other j few many. elim (same_line other axis j i) [
          | inl (ea, ej) ↦
              subst (λ (l : List (Axis × ℕ)). Contains l (other, j)) (sym waits)
              (Contains-append_right (drop next queue.items) ((axis, i) ∷ []) (other, j)
              (subst (λ (y : Axis × ℕ). Contains ((axis, i) ∷ []) y) (λ t. (sym ea t, sym ej t)) (contains_head (axis, i) [])))
          | inr off ↦ absurd (omega (arith, x.raised.elsewhere other j off, few, many))
        ];
      }
