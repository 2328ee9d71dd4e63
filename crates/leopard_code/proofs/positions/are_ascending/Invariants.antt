use Rattle.std.proofs.Common.{◌≡◌, ◌-◌, drop}
use Rattle.std.specs.Prelude.{nat_lt}
use Rattle.namespace_id.specs.Lists.{holds_along}
use Rattle.leopard_code.proofs.positions.are_ascending.Given as goal

-- the positions from the one before on decide
abbrev pub invariant-loop-i : goal.invariant-loop-i
invariant-loop-i l = holds_along nat_lt (drop (l.i - 1) l.known) ≡ holds_along nat_lt l.known
