-- The first of some numbers, each twice the one before, that passes a test.
use Rattle.std.proofs.Common.{◌≡◌, ◌∙◌, ℕ, zero, suc, ◌*◌, ◌^◌, ◌<◌, ◌≤◌, Bool, true, false, if◌then◌else◌, inl, inr, refl, sym, ap, subst, arith, mul_assoc, mul_comm}
use Rattle.std.proofs.Math.Nat.{pow-suc, one-le-pow}
use Rattle.std.proofs.lemmas.Bool.{cases_Bool}
use Rattle.std.proofs.lemmas.Nat.{mul-le}
use Rattle.namespace_id.specs.Doublings.{least_doubling}

-- a number that doesn't pass the test is left behind
pub least_doubling-suc : (test : ℕ → Bool) (more n : ℕ) → test n ≡ false → least_doubling test (suc more) n ≡ least_doubling test more (n * 2)
unfolding least_doubling
least_doubling-suc test more n fails = ap (λ (b : Bool). if b then n else least_doubling test more (n * 2)) fails

-- a number that passes the test is found
pub least_doubling-found : (test : ℕ → Bool) (more n : ℕ) → test n ≡ true → least_doubling test more n ≡ n
unfolding least_doubling
least_doubling-found test zero n passes = refl
least_doubling-found test (suc more) n passes = ap (λ (b : Bool). if b then n else least_doubling test more (n * 2)) passes

-- one doubling more is one before the others
pub power_doubled : (n j : ℕ) → n * 2 ^ suc j ≡ n * 2 * 2 ^ j
power_doubled n j =
    let twice : 2 ^ suc j ≡ 2 ^ j * 2 = pow-suc 2 j in
    ap (λ (m : ℕ). n * m) (twice ∙ mul_comm (2 ^ j) 2) ∙ sym (mul_assoc n 2 (2 ^ j))

-- ---- a loop that doubles

-- so many doublings of a number give the last one, and the least that passes is looked for from it on
pub record IsOnTheWay (test : ℕ → Bool) (last least n : ℕ) : Type 0 where
  pub more : ℕ
  pub ends : n * 2 ^ more ≡ last
  pub value : least_doubling test more n ≡ least

-- a number below the last one has a doubling left
way_on : (test : ℕ → Bool) (last least n more : ℕ) → n < last → n * 2 ^ more ≡ last → least_doubling test more n ≡ least
    → test n ≡ false → IsOnTheWay test last least (n * 2)
way_on test last least n zero below ends value fails = absurd (omega (arith, below, ends))
way_on test last least n (suc more) below ends value fails = record {
  more = more;
  ends = sym (power_doubled n more) ∙ ends;
  value = sym (least_doubling-suc test more n fails) ∙ value;
}

-- a number that doesn't pass is doubled
pub way-doubled : (test : ℕ → Bool) (last least n : ℕ) → n < last → test n ≡ false → IsOnTheWay test last least n → IsOnTheWay test last least (n * 2)
way-doubled test last least n below fails way = way_on test last least n way.more below way.ends way.value fails

-- the loop ends at the least number that passes
pub way-ends : (test : ℕ → Bool) (last least n : ℕ) → test n ≡ true → IsOnTheWay test last least n → n ≡ least
way-ends test last least n passes way = sym (least_doubling-found test way.more n passes) ∙ way.value

-- ---- what is found

-- no lesser doubling passes the test
pub least_from : (test : ℕ → Bool) (more n j : ℕ) → j ≤ more → test (n * 2 ^ j) ≡ true → least_doubling test more n ≤ n * 2 ^ j
unfolding least_doubling
least_from test zero n zero h passes = omega arith
least_from test zero n (suc j) h passes = absurd (omega (arith, h))
least_from test (suc more) n zero h passes =
    let one : n * 2 ^ 0 ≡ n = omega arith in
    let here : test n ≡ true = subst (λ (m : ℕ). test m ≡ true) one passes in
    omega (arith, least_doubling-found test (suc more) n here)
least_from test (suc more) n (suc j) h passes = elim (cases_Bool (test n)) [
  | inl here ↦
      let grows : n * 1 ≤ n * 2 ^ suc j = mul-le n 1 n (2 ^ suc j) (omega arith) (one-le-pow (suc j) 2 (omega arith)) in
      omega (arith, least_doubling-found test (suc more) n here, grows)
  | inr fails ↦
      let rest : least_doubling test more (n * 2) ≤ n * 2 * 2 ^ j =
      least_from test more (n * 2) j (omega (arith, h)) (subst (λ (m : ℕ). test m ≡ true) (power_doubled n j) passes) in
      omega (arith, least_doubling-suc test more n fails, rest, power_doubled n j)
]

-- it is at most the last
pub most_from : (test : ℕ → Bool) (more n : ℕ) → least_doubling test more n ≤ n * 2 ^ more
unfolding least_doubling
most_from test zero n = omega arith
most_from test (suc more) n = elim (cases_Bool (test n)) [
  | inl here ↦
      let grows : n * 1 ≤ n * 2 ^ suc more = mul-le n 1 n (2 ^ suc more) (omega arith) (one-le-pow (suc more) 2 (omega arith)) in
      omega (arith, least_doubling-found test (suc more) n here, grows)
  | inr fails ↦ omega (arith, least_doubling-suc test more n fails, most_from test more (n * 2), power_doubled n more)
]

-- it passes the test if the last does
pub passes_from : (test : ℕ → Bool) (more n : ℕ) → test (n * 2 ^ more) ≡ true → test (least_doubling test more n) ≡ true
unfolding least_doubling
passes_from test zero n last =
    let one : n * 2 ^ 0 ≡ n = omega arith in subst (λ (m : ℕ). test m ≡ true) one last
passes_from test (suc more) n last = elim (cases_Bool (test n)) [
  | inl here ↦ subst (λ (m : ℕ). test m ≡ true) (sym (least_doubling-found test (suc more) n here)) here
  | inr fails ↦
      subst (λ (m : ℕ). test m ≡ true) (sym (least_doubling-suc test more n fails))
      (passes_from test more (n * 2) (subst (λ (m : ℕ). test m ≡ true) (power_doubled n more) last))
]
