use Rattle.std.proofs.Common.{◌≡◌, ◌+◌, drop}
use Rattle.befp_verify.proofs.BranchLemmas.{before}
use Rattle.befp_verify.proofs.compacting.count_before.Given as goal

abbrev pub invariant-loop-i : goal.invariant-loop-i
invariant-loop-i l = before l.middle l.branches ≡ l.i + before l.middle (drop l.i l.branches)
