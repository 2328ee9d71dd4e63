-- Where the intervals that hold none of some neighboring places stand, and how many there are.
use Rattle.std.proofs.Common.{◌≡◌, ◌⊎◌, ◌∙◌, ℕ, zero, suc, ◌+◌, ◌^◌, ◌<◌, ◌≤◌, List, [], ◌∷◌, length, take, drop, sym, ap, subst, inl, inr, arith, length-append}
use Rattle.std.specs.List.{AllByRecursion}
use Rattle.std.proofs.lemmas.Bool.{cases_lt}
use Rattle.std.proofs.lemmas.Nat.{pow_pos}
use Rattle.nmt_proofs.specs.Openings.{Shown, begun, outside}
use Rattle.nmt_proofs.proofs.Parts.ListLemmas.{each-append, each-split}
use Rattle.nmt_proofs.proofs.Parts.SingleLemmas.{outside_empty}
use Rattle.nmt_proofs.proofs.Neighbors.RunLemmas.{IsRun, AreHalves, run-halves, outside_one}

-- an interval within the first `last` places that ends at or before `low`, or begins at or behind `high`
pub record IsBeside (low high last : ℕ) (x : ℕ × ℕ) : Type 0 where
  pub within : x.0 + 2 ^ x.1 ≤ last
  pub side : (x.0 + 2 ^ x.1 ≤ low) ⊎ (high ≤ x.0)

-- the places from `low` to `high` that are in an interval are in the run of `count` places from `from` on
abbrev pub HoldsAll : ℕ → ℕ → ℕ → ℕ → ℕ → ℕ → Type 0
HoldsAll low high st end from count = (i : ℕ) → st ≤ i → i < end → low ≤ i → i < high → (from ≤ i) × (i < from + count)

-- an interval that holds none of these places is beside them
beside_empty : (low high last st d from : ℕ) → low < high → st + 2 ^ d ≤ last → HoldsAll low high st (st + 2 ^ d) from 0 → IsBeside low high last (st, d)
beside_empty low high last st d from some fits h =
    let none : (i : ℕ) → st ≤ i → i < st + 2 ^ d → low ≤ i → i < high → ⊥ = λ i a b c e. let x = h i a b c e in omega (arith, x.0, x.1) in record {
      within = fits;
      side = elim (cases_lt st low) [
        | inl before ↦ elim (cases_lt low (st + 2 ^ d)) [ inl in_it ↦ absurd (none low (omega arith) in_it (omega arith) some) | inr past ↦ inl past ]
        | inr from_low ↦ elim (cases_lt st high) [ inl in_it ↦ absurd (none st (omega arith) (omega (arith, pow_pos d)) from_low in_it) | inr past ↦ inr past ]
      ];
    }

-- the intervals outside of a run are beside it
pub outside_beside : (low high last d st from : ℕ) (ss : List Shown) → low < high → st + 2 ^ d ≤ last → IsRun from ss → HoldsAll low high st (st + 2 ^ d) from (length ss)
    → AllByRecursion (IsBeside low high last) (outside d st ss)
outside_beside low high last d st from [] some fits run h =
    subst (AllByRecursion (IsBeside low high last)) (sym (outside_empty d st)) (beside_empty low high last st d from some fits h, tt)
outside_beside low high last zero st from (s ∷ ss) some fits run h = subst (AllByRecursion (IsBeside low high last)) (sym (outside_one st s ss)) tt
outside_beside low high last (suc d) st from (s ∷ ss) some fits run h =
    let xs : List Shown = s ∷ ss in
    let m : ℕ = st + 2 ^ d in
    let l : List Shown = take (begun m xs) xs in
    let r : List Shown = drop (begun m xs) xs in
    let halves : AreHalves d st from xs l r = run-halves d st from s ss run in
    let left : HoldsAll low high st m from (length l) = λ i a b c e.
    let x = h i a (omega (arith, b, halves.twice)) c e in (
      x.0,
      elim (cases_lt 0 (length r)) [
        | inl more ↦ omega (arith, b, halves.behind more)
        | inr all ↦ omega (arith, x.1, all, halves.together)
      ],
    ) in
    let right : HoldsAll low high m (m + 2 ^ d) (from + length l) (length r) = λ i a b c e.
    let x = h i (omega (arith, a)) (omega (arith, b, halves.twice)) c e in
    (omega (arith, a, x.0, halves.before), omega (arith, x.1, halves.together)) in
    subst (AllByRecursion (IsBeside low high last)) (sym halves.outside_is)
    (each-append _ (outside d st l) (outside d m r)
    (outside_beside low high last d st from l some (omega (arith, fits, halves.twice)) halves.run_left left)
    (outside_beside low high last d m (from + length l) r some (omega (arith, fits, halves.twice)) halves.run_right right))

-- an interval of which a fact holds and that holds a place
pub record IsFound (P : ℕ × ℕ → Type 0) (i : ℕ) : Type 0 where
  pub interval : ℕ × ℕ
  pub fact : P interval
  pub low : interval.0 ≤ i
  pub high : i < interval.0 + 2 ^ interval.1

-- each other place is in one of the intervals outside of a run
pub outside_holds : (P : ℕ × ℕ → Type 0) (d st from i : ℕ) (ss : List Shown) → IsRun from ss → (0 < length ss → (st ≤ from) × (from + length ss ≤ st + 2 ^ d))
    → AllByRecursion P (outside d st ss) → st ≤ i → i < st + 2 ^ d → (i < from) ⊎ (from + length ss ≤ i) → IsFound P i
outside_holds P d st from i [] run fits each low high other =
    let one = subst (AllByRecursion P) (outside_empty d st) each in
    record { interval = (st, d); fact = one.0; low = low; high = high }
outside_holds P zero st from i (s ∷ ss) run fits each low high other =
    let x = fits (omega arith) in
    absurd (elim other [ inl before ↦ omega (arith, x.0, x.1, low, high, before) | inr behind ↦ omega (arith, x.0, x.1, low, high, behind) ])
outside_holds P (suc d) st from i (s ∷ ss) run fits each low high other =
    let xs : List Shown = s ∷ ss in
    let m : ℕ = st + 2 ^ d in
    let l : List Shown = take (begun m xs) xs in
    let r : List Shown = drop (begun m xs) xs in
    let halves : AreHalves d st from xs l r = run-halves d st from s ss run in
    let x = fits (omega arith) in
    let both = each-split P (outside d st l) (outside d m r) (subst (AllByRecursion P) halves.outside_is each) in
    elim (cases_lt i m) [
      | inl before ↦
          outside_holds P d st from i l halves.run_left (λ some. (x.0, omega (arith, halves.before, some))) both.0 low before
          (elim other [ inl a ↦ inl a | inr b ↦ inr (omega (arith, b, halves.together)) ])
      | inr behind ↦
          outside_holds P d m (from + length l) i r halves.run_right
          (λ some. (halves.behind some, omega (arith, x.1, halves.together, halves.twice))) both.1 behind (omega (arith, high, halves.twice))
          (elim other [ inl a ↦ inl (omega (arith, a)) | inr b ↦ inr (omega (arith, b, halves.together)) ])
    ]

-- a run leaves out at most one interval a level on either side, and none where it reaches that end
pub outside_few : (a b d st from : ℕ) (ss : List Shown) → 0 < length ss → IsRun from ss → st ≤ from → from + length ss ≤ st + 2 ^ d
    → (st < from → d ≤ a) → (from + length ss < st + 2 ^ d → d ≤ b) → length (outside d st ss) ≤ a + b
outside_few a b d st from [] some run low high left right = absurd (omega arith)
outside_few a b zero st from (s ∷ ss) some run low high left right = omega (arith, ap length (outside_one st s ss))
outside_few a b (suc d) st from (s ∷ ss) some run low high left right =
    let xs : List Shown = s ∷ ss in
    let m : ℕ = st + 2 ^ d in
    let l : List Shown = take (begun m xs) xs in
    let r : List Shown = drop (begun m xs) xs in
    let halves : AreHalves d st from xs l r = run-halves d st from s ss run in
    let count : length (outside (suc d) st xs) ≡ length (outside d st l) + length (outside d m r) =
    ap length halves.outside_is ∙ length-append (outside d st l) (outside d m r) in
    let right' : from + length l + length r < m + 2 ^ d → suc d ≤ b = λ lt. right (omega (arith, lt, halves.together, halves.twice)) in
    elim (cases_lt 0 (length l)) [
      | inl in_left ↦ elim (cases_lt 0 (length r)) [
        | inl in_right ↦
            let ls : length (outside d st l) ≤ a + 0 = outside_few a 0 d st from l in_left halves.run_left low (omega (arith, halves.before, in_left))
            (λ lt. omega (arith, left lt)) (λ lt. absurd (omega (arith, lt, halves.behind in_right))) in
            let rs : length (outside d m r) ≤ 0 + b = outside_few 0 b d m (from + length l) r in_right halves.run_right (halves.behind in_right)
            (omega (arith, high, halves.together, halves.twice)) (λ lt. absurd (omega (arith, lt, halves.before, in_left))) (λ lt. omega (arith, right' lt)) in
            omega (arith, count, ls, rs)
        | inr none ↦
            let ls : length (outside d st l) ≤ a + d = outside_few a d d st from l in_left halves.run_left low (omega (arith, halves.before, in_left))
            (λ lt. omega (arith, left lt)) (λ lt. omega arith) in
            let rs : length (outside d m r) ≡ 1 = one_outside d m r (omega (arith, none)) in
            omega (arith, count, ls, rs, right' (omega (arith, none, halves.before, in_left, pow_pos d)))
      ]
      | inr none ↦
          let in_right : 0 < length r = omega (arith, none, halves.together) in
          let ls : length (outside d st l) ≡ 1 = one_outside d st l (omega (arith, none)) in
          let rs : length (outside d m r) ≤ d + b = outside_few d b d m (from + length l) r in_right halves.run_right (halves.behind in_right)
          (omega (arith, high, halves.together, halves.twice)) (λ lt. omega arith) (λ lt. omega (arith, right' lt)) in
          omega (arith, count, ls, rs, left (omega (arith, none, halves.behind in_right, pow_pos d)))
    ]
  where
    one_outside : (d st : ℕ) (ss : List Shown) → length ss ≡ 0 → length (outside d st ss) ≡ 1
    one_outside d st [] e = ap length (outside_empty d st)
    one_outside d st (s ∷ ss) e = absurd (omega arith)
