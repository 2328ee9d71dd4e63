use Rattle.std.proofs.Common.{◌-◌}
use Rattle.celestia_pb.proofs.ShareLoops.{IsCountingShares}
use Rattle.celestia_pb.proofs.row_shares.count_shares.Given as goal

-- those that were counted and those of the rest are all
abbrev pub invariant-loop-count : goal.invariant-loop-count
invariant-loop-count l = IsCountingShares 512 l.bytes l.count l.rest

abbrev pub decreases-loop-count : goal.decreases-loop-count
decreases-loop-count l = 512 - l.count
