use Rattle.std.proofs.Common.{◌-◌, ◌≤◌, length}
use Rattle.sampling.specs.Taken.{passed}
use Rattle.sampling.proofs.taken.passed.Given as goal

-- as many as are looked for
abbrev pub invariant-loop-low : goal.invariant-loop-low
invariant-loop-low l = record {
  low : l.low ≤ passed l.taken l.place;
  high : passed l.taken l.place ≤ l.high;
  bound : l.high ≤ length l.taken;
}

abbrev pub decreases-loop-low : goal.decreases-loop-low
decreases-loop-low l = l.high - l.low
