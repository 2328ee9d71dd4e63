use Rattle.std.proofs.Common.{◌≡◌, ◌≤◌, ◌-◌, drop, length}
use Rattle.share_split.specs.Units.{starts_on}
use Rattle.share_split.proofs.parsing.starts_on.Given as goal

-- the starts so far lie before the place
abbrev pub invariant-loop-before : goal.invariant-loop-before
invariant-loop-before l = record {
  within : l.before ≤ length l.starts;
  rest : starts_on l.from (drop l.before l.starts) ≡ starts_on l.from l.starts;
}

abbrev pub decreases-loop-before : goal.decreases-loop-before
decreases-loop-before l = length l.starts - l.before
