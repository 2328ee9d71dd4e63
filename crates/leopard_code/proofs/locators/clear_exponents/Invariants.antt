use Rattle.std.proofs.Common.{◌≡◌, ℕ, ◌<◌, get_or}
use Rattle.leopard_code.proofs.locators.clear_exponents.Given as goal

-- the exponents so far are 0
abbrev pub invariant-loop-x : goal.invariant-loop-x
invariant-loop-x l = (y : ℕ) → y < l.x → get_or l.exponents y 0 ≡ 0
