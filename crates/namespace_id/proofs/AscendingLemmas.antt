-- Lists of numbers that count up.
use Rattle.std.proofs.Common.{◌≡◌, ℕ, zero, suc, ◌+◌, ◌<◌, length, get_or, refl, ap, arith}
use Rattle.namespace_id.specs.Lists.{ascending}

-- n numbers that count up are n
pub length-ascending : (n first : ℕ) → length (ascending first n) ≡ n
unfolding ascending
length-ascending zero first = refl
length-ascending (suc n) first = ap suc (length-ascending n (suc first))

-- the i-th of numbers that count up is i above the first
pub get_or-ascending : (n first i : ℕ) → i < n → get_or (ascending first n) i 0 ≡ first + i
unfolding ascending
get_or-ascending zero first i h = absurd (omega arith)
get_or-ascending (suc n) first zero h = omega arith
get_or-ascending (suc n) first (suc i) h = omega (arith, get_or-ascending n (suc first) i (omega arith))
