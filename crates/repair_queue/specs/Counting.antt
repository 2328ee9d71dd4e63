-- Counting numbers that pass a test, and sums.
use Rattle.std.specs.Prelude.{ℕ, zero, suc, ◌+◌, nat_lt, List, Bool, true, false}
use Rattle.std.specs.List.{count_by}

-- 1 where it passes
abbrev pub one_if : Bool → ℕ
one_if true = 1
one_if false = 0

-- how many of the n numbers from the first on pass
unfoldable pub count_from : (ℕ → Bool) → ℕ → ℕ → ℕ
count_from f first zero = 0
count_from f first (suc n) = one_if (f first) + count_from f (suc first) n

-- the sum of the first n numbers
unfoldable pub sum_below : (ℕ → ℕ) → ℕ → ℕ
sum_below f zero = 0
sum_below f (suc n) = f n + sum_below f n

-- how many of these numbers are below k
abbrev pub low : ℕ → List ℕ → ℕ
low k counts = count_by (λ n. nat_lt n k) counts
