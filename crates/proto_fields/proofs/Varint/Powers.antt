-- How great a number of so many bytes of seven bits is.
use Rattle.std.proofs.Common.{◌≡◌, ℕ, zero, suc, ◌+◌, ◌-◌, ◌*◌, ◌^◌, ◌<◌, ◌≤◌, subst, arith, pow-suc}

-- powers are above 0
power_some : (most : ℕ) → 0 < 128 ^ most
power_some zero = omega arith
power_some (suc most) = omega (arith, pow-suc 128 most, power_some most)

-- one byte states less than any of these powers
pub pow_least : (most n : ℕ) → 0 < most → n < 128 → n < 128 ^ most
pow_least zero n some lt = absurd (omega arith)
pow_least (suc most) n some lt = omega (arith, pow-suc 128 most, power_some most)

-- one byte more states 128 times as many
pub pow_next : (most low high : ℕ) → 0 < most → low < 128 → high < 128 ^ (most - 1) → low + 128 * high < 128 ^ most
pow_next zero low high some small lt = absurd (omega arith)
pow_next (suc most) low high some small lt =
    let e : suc most - 1 ≡ most = omega arith in
    let below : high < 128 ^ most = subst (λ (k : ℕ). high < 128 ^ k) e lt in
    omega (arith, pow-suc 128 most)

-- four bytes state few numbers
pub pow_few : (most n : ℕ) → most ≤ 4 → n < 128 ^ most → n < 2 ^ 28
pow_few zero n le lt = omega arith
pow_few (suc zero) n le lt = omega arith
pow_few (suc (suc zero)) n le lt = omega arith
pow_few (suc (suc (suc zero))) n le lt = omega arith
pow_few (suc (suc (suc (suc zero)))) n le lt = omega arith
pow_few (suc (suc (suc (suc (suc most))))) n le lt = absurd (omega arith)
