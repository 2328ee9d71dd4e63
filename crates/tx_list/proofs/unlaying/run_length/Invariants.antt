use Rattle.std.proofs.Common.{◌≡◌, ◌+◌, length, drop}
use Rattle.tx_list.specs.BackRefusals.{run_of}
use Rattle.tx_list.proofs.unlaying.run_length.Given as goal

-- the shares so far, and the run of those that are left, are the run
abbrev pub invariant-loop-count : goal.invariant-loop-count
invariant-loop-count l = length (run_of l.name l.shares) ≡ l.count + length (run_of l.name (drop l.count l.shares))
