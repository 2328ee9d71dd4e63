-- The width of subtrees is the least power of two that is wide enough, and so the lesser of two.
use Rattle.std.proofs.Common.{◌≡◌, ◌∙◌, ℕ, zero, suc, ◌*◌, ◌^◌, ◌<◌, ◌≤◌, min, true, inl, inr, refl, sym, ap, subst, arith}
use Rattle.std.specs.Int.{IsPowerOfTwo, div_ceil}
use Rattle.std.proofs.lemmas.Bool.{cases_lt, cases_Bool}
use Rattle.std.proofs.lemmas.Bool.Decides.{nat_tests}
use Rattle.std.proofs.lemmas.Grind.{div_ceil_times}
use Rattle.std.proofs.lemmas.Nat.{mul-le}
use Rattle.std.proofs.Math.Nat.{pow-suc, one-le-pow, mul-suc}
use Rattle.std.proofs.Math.Pow.{pow_mono}
use Rattle.share_split.specs.Widths.{is_wide_enough, width_from, subtree_width_of, IsLeastPower, IsLeastRoot}
use Rattle.namespace_id.specs.Doublings.{least_doubling}
use Rattle.namespace_id.proofs.DoublingLemmas.{least_doubling-suc, least_doubling-found, least_from, most_from, passes_from}
use Rattle.share_split.proofs.Width.Powers.{power-double}

-- it is a power of two if the first is
power_from : (more j count : ℕ) → IsPowerOfTwo (width_from more (2 ^ j) count)
unfolding least_doubling
power_from zero j count = (j, refl)
power_from (suc more) j count = elim (cases_Bool (is_wide_enough count (2 ^ j))) [
  | inl here ↦ (j, least_doubling-found (is_wide_enough count) (suc more) (2 ^ j) here)
  | inr small ↦
      subst IsPowerOfTwo
      (ap (λ (w : ℕ). width_from more w count) (pow-suc 2 j) ∙ sym (least_doubling-suc (is_wide_enough count) more (2 ^ j) small)) (power_from more (suc j) count)
]

-- ---- the width

-- the width of subtrees is a power of two
width_of-power : (count : ℕ) → IsPowerOfTwo (subtree_width_of count)
width_of-power count = power_from 28 0 count

-- the width of subtrees is wide enough
width_of-enough : (count : ℕ) → count ≤ 2 ^ 56 → is_wide_enough count (subtree_width_of count) ≡ true
width_of-enough count h =
    let last : is_wide_enough count (1 * 2 ^ 28) ≡ true = grind (arith, nat_tests) in
    passes_from (is_wide_enough count) 28 1 last

-- no lesser power of two is wide enough
width_of-least : (count power : ℕ) → IsPowerOfTwo power → is_wide_enough count power ≡ true → subtree_width_of count ≤ power
width_of-least count power p enough = elim (cases_lt 28 p.0) [
  | inr few ↦
      let one : power ≡ 1 * 2 ^ p.0 = omega (arith, p.1) in
      omega (arith, one, least_from (is_wide_enough count) 28 1 p.0 few (subst (λ (w : ℕ). is_wide_enough count w ≡ true) one enough))
  | inl many ↦
      let greater : 2 ^ 28 ≤ 2 ^ p.0 = (let le : 28 ≤ p.0 = omega (arith, many) in pow_mono le) in
      omega (arith, p.1, greater, most_from (is_wide_enough count) 28 1)
]

-- if 64 subtrees don't hold the shares, a square does
enough_square : (count width : ℕ) → 64 * width < count → is_wide_enough count width ≡ true → count ≤ width * width
enough_square count width more h = grind (arith, nat_tests)

-- it is the lesser of two powers of two
pub width_is_lesser : (count root by_threshold by_square : ℕ) → count ≤ 2 ^ 56
    → IsLeastPower (div_ceil count 64) by_threshold → IsLeastRoot count root → IsLeastPower root by_square
    → subtree_width_of count ≡ min by_threshold by_square
width_is_lesser count root by_threshold by_square h threshold least square =
    let w : ℕ = subtree_width_of count in
    let rounded = div_ceil_times count 64 (omega arith) in
    let threshold_enough : is_wide_enough count by_threshold ≡ true = grind (arith, nat_tests, rounded.0, threshold.holds) in
    let squares : root * root ≤ by_square * by_square = mul-le root root by_square by_square square.holds square.holds in
    let square_enough : is_wide_enough count by_square ≡ true = grind (arith, nat_tests, least.holds, squares) in
    let below_threshold : w ≤ by_threshold = width_of-least count by_threshold threshold.is_power threshold_enough in
    let below_square : w ≤ by_square = width_of-least count by_square square.is_power square_enough in
    elim (cases_lt (64 * w) count) [
      | inr held ↦
          let at : by_threshold ≤ w = threshold.none_below w (width_of-power count) (omega (arith, rounded.1, held)) in
          omega (arith, at, below_threshold, below_square)
      | inl more ↦
          let square_holds : count ≤ w * w = enough_square count w more (width_of-enough count h) in
          let at : by_square ≤ w = square.none_below w (width_of-power count) (least.none_below w square_holds) in
          omega (arith, at, below_threshold, below_square)
    ]

-- ---- there are such powers and roots

-- the next power of two is twice as great
power_above : (j k : ℕ) → 2 ^ j < 2 ^ k → 2 ^ j * 2 ≤ 2 ^ k
power_above j k lt = elim (cases_lt j k) [
  | inl below ↦
      let next : suc j ≤ k = omega (arith, below) in
      let greater : 2 ^ suc j ≤ 2 ^ k = pow_mono next in omega (arith, greater, pow-suc 2 j)
  | inr above ↦ (let greater : 2 ^ k ≤ 2 ^ j = pow_mono above in absurd (omega (arith, greater, lt)))
]

-- there is a least power of two that is not below a number
pub least_power : (n : ℕ) → (least : ℕ) × IsLeastPower n least
least_power zero =
    (1, record { is_power = (0, refl); holds = omega arith; none_below = λ other p h. omega (arith, p.1, one-le-pow p.0 2 (omega arith)) })
least_power (suc n) =
    let before : (least : ℕ) × IsLeastPower n least = least_power n in
    let j : ℕ = before.1.is_power.0 in
    let is : before.0 ≡ 2 ^ j = before.1.is_power.1 in
    let some : 1 ≤ 2 ^ j = one-le-pow j 2 (omega arith) in
    elim (cases_lt n before.0) [
      | inl lt ↦ (
        before.0,
        record {
          is_power = before.1.is_power;
          holds = omega (arith, lt);
          none_below = λ other p h. before.1.none_below other p (omega (arith, h));
        },
      )
      | inr le ↦ (
        before.0 * 2,
        record {
          is_power = power-double before.0 before.1.is_power;
          holds = omega (arith, before.1.holds, is, some);
          none_below = λ other p h. (let more = power_above j p.0 (omega (arith, h, le, is, p.1)) in omega (arith, more, is, p.1));
        },
      )
    ]

-- a greater square has a greater root
next_root : (root other n : ℕ) → root * root ≤ n → suc n ≤ other * other → suc root ≤ other
next_root root other n le h = elim (cases_lt root other) [
  | inl below ↦ omega (arith, below)
  | inr above ↦ (let square = mul-le other other root root above above in absurd (omega (arith, square, le, h)))
]

-- there is a least number whose square is not below another
pub least_root : (n : ℕ) → (least : ℕ) × IsLeastRoot n least
least_root zero = (0, record { holds = omega arith; none_below = λ other h. omega arith })
least_root (suc n) =
    let before : (least : ℕ) × IsLeastRoot n least = least_root n in
    let root : ℕ = before.0 in
    elim (cases_lt n (root * root)) [
      | inl lt ↦ (root, record { holds = omega (arith, lt); none_below = λ other h. before.1.none_below other (omega (arith, h)) })
      | inr le ↦ (
        suc root,
        record {
          holds = (let grows : root * root ≤ suc root * root = mul-le root root (suc root) root (omega arith) (omega arith) in
              omega (arith, grows, mul-suc (suc root) root, before.1.holds));
          none_below = λ other h. next_root root other n le h;
        },
      )
    ]
