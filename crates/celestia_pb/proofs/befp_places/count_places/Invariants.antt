use Rattle.std.proofs.Common.{◌≡◌, ◌-◌, ◌≤◌}
use Rattle.celestia_pb.specs.Befp.{count_at}
use Rattle.celestia_pb.proofs.befp_places.count_places.Given as goal

-- those that were counted and those of the rest are all
abbrev pub invariant-loop-count : goal.invariant-loop-count
invariant-loop-count l = record {
  all : count_at 0 1024 l.bytes ≡ count_at l.count (1024 - l.count) l.rest;
  few : l.count ≤ 1024;
}

abbrev pub decreases-loop-count : goal.decreases-loop-count
decreases-loop-count l = 1024 - l.count
