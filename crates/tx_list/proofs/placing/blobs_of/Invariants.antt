use Rattle.std.proofs.Common.{◌≡◌, ◌++◌, drop}
use Rattle.square_layout.proofs.CountLemmas.{lent}
use Rattle.tx_list.specs.Payments.{blobs_of}
use Rattle.tx_list.proofs.placing.blobs_of.Given as goal

-- those so far and those that are left are all
abbrev pub invariant-loop-payment : goal.invariant-loop-payment
invariant-loop-payment l = lent l.all.items ++ blobs_of (drop l.payment-index l.payments) ≡ blobs_of l.payments
