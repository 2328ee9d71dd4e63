-- Numbers of which each is twice the one before.
use Rattle.std.specs.Prelude.{ℕ, zero, suc, ◌*◌, Bool, if◌then◌else◌}

-- the first of n, 2n, 4n, .. that passes a test, or the last after so many doublings
unfoldable pub least_doubling : (ℕ → Bool) → ℕ → ℕ → ℕ
least_doubling test zero n = n
least_doubling test (suc more) n = if test n then n else least_doubling test more (n * 2)
