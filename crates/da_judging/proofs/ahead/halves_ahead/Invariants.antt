use Rattle.std.proofs.Common.{◌≤◌}
use Rattle.da_judging.proofs.ahead.halves_ahead.Given as goal

-- one node for each frame at most
abbrev pub invariant-loop : goal.invariant-loop
invariant-loop l = l.count ≤ l.counter
