use Rattle.std.proofs.Common.{◌≡◌, ◌-◌, ◌≤◌, ◌++◌, true}
use Rattle.celestia_pb.specs.BefpEntries.{none_seen, places_at, cells_read, has_read}
use Rattle.celestia_pb.proofs.befp_places.cells_in.Given as goal

-- what was read and what is read of the rest are all
abbrev pub invariant-loop-seen : goal.invariant-loop-seen
invariant-loop-seen l = record {
  all : cells_read l.accused 0 (places_at l.known l.most 1024 none_seen l.bytes)
      ≡ l.cells.items ++ cells_read l.accused l.seen.place (places_at l.known l.most (1024 - l.seen.place) l.seen l.rest);
  right : has_read (places_at l.known l.most (1024 - l.seen.place) l.seen l.rest) ≡ true;
  few : l.seen.place ≤ 1024;
  shares : l.seen.shares ≤ l.seen.place;
}

abbrev pub decreases-loop-seen : goal.decreases-loop-seen
decreases-loop-seen l = 1024 - l.seen.place
