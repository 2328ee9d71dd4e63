use Rattle.std.proofs.Common.{◌≡◌, ◌≤◌, length}
use Rattle.celestia_pb.specs.Extended.{from_field}
use Rattle.celestia_pb.proofs.extended.from_field.Given as goal

-- what is found in the rest is found in all
abbrev pub invariant-loop-field : goal.invariant-loop-field
invariant-loop-field l = record {
  same : from_field l.number l.rest ≡ from_field l.number l.fn.bytes;
  few : length l.rest ≤ length l.fn.bytes;
}

abbrev pub decreases-loop-field : goal.decreases-loop-field
decreases-loop-field l = length l.rest
