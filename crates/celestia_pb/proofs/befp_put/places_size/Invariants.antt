use Rattle.std.proofs.Common.{◌≡◌, ◌+◌, ◌-◌, ◌*◌, ◌≤◌, length}
use Rattle.celestia_pb.specs.BefpEntries.{places_text, places_of}
use Rattle.celestia_pb.proofs.befp_put.places_size.Given as goal

-- what was counted and what is left are all
abbrev pub invariant-loop-place : goal.invariant-loop-place
invariant-loop-place l = record {
  all : l.total + length (places_text 1 (places_of l.axis (2 * l.k - l.place) l.place l.rest)) ≡ length (places_text 1 (places_of l.axis (2 * l.k) 0 l.cells));
  few : l.total ≤ 3000 * l.place;
}
