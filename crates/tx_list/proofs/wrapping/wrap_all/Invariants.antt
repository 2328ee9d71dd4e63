use Rattle.std.proofs.Common.{◌≡◌, ◌++◌, drop, length}
use Rattle.tx_list.specs.Payments.{blobs_of}
use Rattle.tx_list.specs.Wrapped.{wrap_all}
use Rattle.tx_list.proofs.wrapping.wrap_all.Given as goal

-- those so far and those that are left are all, and a place is left for each blob
abbrev pub invariant-loop-payment : goal.invariant-loop-payment
invariant-loop-payment l = record {
  all : l.units.items ++ wrap_all (drop l.payment-index l.payments) l.left ≡ wrap_all l.payments l.places;
  count : length l.left ≡ length (blobs_of (drop l.payment-index l.payments));
}
