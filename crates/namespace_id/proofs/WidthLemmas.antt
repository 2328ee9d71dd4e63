-- What is known of the width of a square.
use Rattle.std.proofs.Common.{◌≡◌, ℕ, ◌<◌, ◌≤◌, true, arith}
use Rattle.std.proofs.lemmas.Bool.Decides.{nat_tests}
use Rattle.namespace_id.specs.Cells.{is_width}

-- a width is at most 512
pub is_width-le : (k : ℕ) → is_width k ≡ true → k ≤ 512
is_width-le k h = grind (arith, nat_tests)

-- a width is not 0
pub is_width-pos : (k : ℕ) → is_width k ≡ true → 0 < k
is_width-pos k h = grind (arith, nat_tests)
