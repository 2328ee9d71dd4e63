use Rattle.std.proofs.Common.{◌-◌}
use Rattle.celestia_pb.proofs.CountLoops.{IsCountingDigests}
use Rattle.celestia_pb.proofs.digests.count_digests.Given as goal

-- those that were counted and those of the rest are all
abbrev pub invariant-loop-count : goal.invariant-loop-count
invariant-loop-count l = IsCountingDigests l.number l.most l.bytes l.count l.rest

abbrev pub decreases-loop-count : goal.decreases-loop-count
decreases-loop-count l = l.most - l.count
