-- How many shares so many bytes take.
use Rattle.std.proofs.Common.{◌≡◌, ℕ, ◌+◌, ◌*◌, ◌<◌, ◌≤◌, inl, inr, arith}
use Rattle.std.specs.Int.{div_ceil}
use Rattle.std.proofs.lemmas.Bool.{cases_lt}
use Rattle.std.proofs.lemmas.Grind.{div_ceil_times}
use Rattle.std.proofs.lemmas.Nat.{mul-le}

-- things in rows of at least one take at most as many rows
pub div_ceil-le : (a b : ℕ) → 0 < b → div_ceil a b ≤ a
div_ceil-le a b some = elim (cases_lt a (div_ceil a b)) [
  | inl more ↦
      let rows : (a + 1) * b ≤ div_ceil a b * b = mul-le (a + 1) b (div_ceil a b) b (omega (arith, more)) (omega arith) in
      let each : a * 1 ≤ a * b = mul-le a 1 a b (omega arith) (omega (arith, some)) in
      let parts : (a + 1) * b ≡ a * b + b = omega arith in
      absurd (omega (arith, rows, each, parts, (div_ceil_times a b some).1))
  | inr within ↦ within
]
