-- The powers of two up to 1,024, and how often they are halved.
use Rattle.std.proofs.Common.{◌≡◌, ℕ, suc, ◌+◌, ◌*◌, ◌/◌, ◌^◌, ◌<◌, ◌≤◌, true, refl, arith, IsTrue}
use Rattle.std.specs.Prelude.{◌==◌, ◌&&◌}
use Rattle.std.proofs.lemmas.Bool.Decides.{nat_tests}
use Rattle.std.proofs.lemmas.Bool.{and_parts, eqb-true}
use Rattle.namespace_id.specs.Cells.{is_width}
use Rattle.namespace_id.specs.Powers.{is_power, halvings}
use Rattle.namespace_id.proofs.TestLemmas.{passes_below, passes_below-at, where_holds, where_holds-true}

-- such a power is not 0
pub power-pos : (n : ℕ) → IsTrue (is_power n) → 0 < n
power-pos n h = grind (arith, nat_tests)

-- it is at most 1,024
pub power-le : (n : ℕ) → IsTrue (is_power n) → n ≤ 1024
power-le n h = grind (arith, nat_tests)

-- half of a power above 1 is a power too, and twice that half is the whole
pub power-half : (n : ℕ) → IsTrue (is_power n) → (n ≡ 1 → ⊥) → IsTrue (is_power (n / 2)) × (0 < n) × (n / 2 + n / 2 ≡ n)
power-half n h several = grind (arith, nat_tests)

-- what has a half is not 1
pub not_one : (n : ℕ) → 0 < n / 2 → n ≡ 1 → ⊥
not_one n some one = omega (arith, some, one)

-- half of a power above 1 is halved once less
pub halvings_half : (n : ℕ) → IsTrue (is_power n) → (n ≡ 1 → ⊥) → halvings n ≡ suc (halvings (n / 2))
halvings_half n h several = grind (arith, nat_tests)

-- 1 is not halved
pub halvings_one : (n : ℕ) → IsTrue (is_power n) → n / 2 ≡ 0 → halvings n ≡ 0
halvings_one n h one = grind (arith, nat_tests)

-- none is halved more than 10 times
pub halvings-le : (n : ℕ) → halvings n ≤ 10
halvings-le n = grind (arith, nat_tests)

-- a test of all powers
powers_test : passes_below 1025 (λ n. where_holds (is_power n) (2 ^ halvings n == n)) ≡ true
unfolding passes_below
powers_test = refl

-- each is the power of two of its halvings
pub power_halvings : (n : ℕ) → IsTrue (is_power n) → 2 ^ halvings n ≡ n
power_halvings n h =
    let test = passes_below-at 1025 (λ k. where_holds (is_power k) (2 ^ halvings k == k)) powers_test n (omega (arith, power-le n h)) in
    eqb-true _ _ (where_holds-true (is_power n) (2 ^ halvings n == n) test h)

-- a test of the eleven exponents
exponents_test : passes_below 11 (λ d. is_power (2 ^ d) && halvings (2 ^ d) == d) ≡ true
unfolding passes_below
exponents_test = refl

-- two to a number up to 10 is such a power, and is halved as often as it was doubled
pub power_of : (d : ℕ) → d ≤ 10 → IsTrue (is_power (2 ^ d)) × (halvings (2 ^ d) ≡ d)
power_of d h =
    let both = and_parts (is_power (2 ^ d)) (halvings (2 ^ d) == d) (passes_below-at 11 (λ k. is_power (2 ^ k) && halvings (2 ^ k) == k) exponents_test d (omega arith)) in
    (both.0, eqb-true _ _ both.1)

-- ---- widths

-- a width is a power
pub width_power : (k : ℕ) → is_width k ≡ true → IsTrue (is_power k)
width_power k width = grind (arith, nat_tests)

-- and twice a width
pub double_power : (k : ℕ) → is_width k ≡ true → IsTrue (is_power (2 * k))
double_power k width = grind (arith, nat_tests)

-- twice a width is halved once more
pub halvings_double : (k : ℕ) → is_width k ≡ true → halvings (2 * k) ≡ suc (halvings k)
halvings_double k width = grind (arith, nat_tests)

-- twice a width is the power of two of its halvings
pub double_halvings : (k : ℕ) → is_width k ≡ true → 2 ^ halvings (2 * k) ≡ 2 * k
double_halvings k width = power_halvings (2 * k) (double_power k width)
