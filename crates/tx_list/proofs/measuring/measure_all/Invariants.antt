use Rattle.std.proofs.Common.{◌≡◌, ◌≤◌, drop, map}
use Rattle.square_layout.specs.Refusals.{most_named}
use Rattle.tx_list.specs.Payments.{blobs_of}
use Rattle.tx_list.specs.BackRefusals.{payment_at, wrappers_refusal}
use Rattle.tx_list.specs.Measures.{measure_of, AreKnown, HaveLengths}
use Rattle.tx_list.proofs.MeasureLemmas.{with}
use Rattle.tx_list.proofs.measuring.measure_all.Given as goal

-- what is found of the units that are left is what is found, and what was measured so far and their blobs are all
abbrev pub invariant-loop-i : goal.invariant-loop-i
invariant-loop-i l = record {
  same : wrappers_refusal 0 l.shares l.units ≡ wrappers_refusal l.i l.shares (drop l.i l.units);
  all : with l.all (blobs_of (map (payment_at l.shares) (drop l.i l.units))) ≡ measure_of (blobs_of (map (payment_at l.shares) l.units));
  fits : l.all.bound ≤ most_named;
  counted : HaveLengths (drop l.i l.units) → HaveLengths l.units;
  known : AreKnown l.shares l.known;
}
