use Rattle.std.proofs.Common.{◌≡◌, ◌+◌, ◌-◌, ◌*◌, ◌≤◌, ◌++◌, length, vec_len, vec_capacity}
use Rattle.celestia_pb.specs.BefpEntries.{places_text, places_of}
use Rattle.celestia_pb.proofs.befp_put.put_places.Given as goal

-- what is there and what is left are all, and there is capacity for what is left
abbrev pub invariant-loop-place : goal.invariant-loop-place
invariant-loop-place l = record {
  all : l.out.items ++ places_text 1 (places_of l.axis (2 * l.k - l.place) l.place l.rest)
      ≡ l.fn.out.items ++ places_text 1 (places_of l.axis (2 * l.k) 0 l.cells);
  len : vec_len l.out + length (places_text 1 (places_of l.axis (2 * l.k - l.place) l.place l.rest))
      ≡ vec_len l.fn.out + length (places_text 1 (places_of l.axis (2 * l.k) 0 l.cells));
  capacity : vec_capacity l.fn.out ≤ vec_capacity l.out;
}
