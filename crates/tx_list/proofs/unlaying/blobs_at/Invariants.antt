use Rattle.std.proofs.Common.{◌≡◌, ◌++◌, drop}
use Rattle.tx_list.specs.BackRefusals.{blobs_at, places_refusal}
use Rattle.tx_list.proofs.unlaying.blobs_at.Given as goal

-- what is found of the places that are left is what is found, and the blobs so far and theirs are all
abbrev pub invariant-loop-j : goal.invariant-loop-j
invariant-loop-j l = record {
  same : places_refusal l.i 0 l.shares l.places ≡ places_refusal l.i l.j l.shares (drop l.j l.places);
  all : l.blobs.items ++ blobs_at l.shares (drop l.j l.places) ≡ blobs_at l.shares l.places;
}
