use Rattle.std.proofs.Common.{◌-◌}
use Rattle.celestia_pb.proofs.AuntLoops.{IsGathering}
use Rattle.celestia_pb.proofs.aunts.aunts_at.Given as goal

-- those that were gathered and those of the rest are all
abbrev pub invariant-loop-count : goal.invariant-loop-count
invariant-loop-count l = IsGathering l.number 11 l.bytes l.up l.count l.rest

abbrev pub decreases-loop-count : goal.decreases-loop-count
decreases-loop-count l = 11 - l.count
