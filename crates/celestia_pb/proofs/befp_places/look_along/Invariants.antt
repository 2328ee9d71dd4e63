use Rattle.std.proofs.Common.{◌≡◌, ◌-◌, ◌≤◌}
use Rattle.celestia_pb.specs.BefpEntries.{none_seen, places_at, seen_read}
use Rattle.celestia_pb.proofs.befp_places.look_along.Given as goal

-- what was seen and what is seen of the rest are all
abbrev pub invariant-loop-seen : goal.invariant-loop-seen
invariant-loop-seen l = record {
  all : seen_read (places_at l.accused l.most 1024 none_seen l.bytes) ≡ seen_read (places_at l.accused l.most (1024 - l.seen.place) l.seen l.rest);
  few : l.seen.place ≤ 1024;
  shares : l.seen.shares ≤ l.seen.place;
}

abbrev pub decreases-loop-seen : goal.decreases-loop-seen
decreases-loop-seen l = 1024 - l.seen.place
