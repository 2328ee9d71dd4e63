use Rattle.std.proofs.Common.{◌≡◌, ◌≤◌, drop}
use Rattle.square_layout.specs.Refusals.{most_named}
use Rattle.tx_list.specs.BackRefusals.{blobs_at, places_refusal}
use Rattle.tx_list.specs.Measures.{measure_of, AreKnown}
use Rattle.tx_list.proofs.MeasureLemmas.{with}
use Rattle.tx_list.proofs.measuring.measure_places.Given as goal

-- what is found of the places that are left is what is found, and what was measured so far and their blobs are all
abbrev pub invariant-loop-j : goal.invariant-loop-j
invariant-loop-j l = record {
  same : places_refusal l.i 0 l.shares l.places ≡ places_refusal l.i l.j l.shares (drop l.j l.places);
  all : with l.all (blobs_at l.shares (drop l.j l.places)) ≡ measure_of (blobs_at l.shares l.places);
  fits : l.all.bound ≤ most_named;
  known : AreKnown l.shares l.known;
}
