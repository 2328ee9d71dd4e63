use Rattle.std.proofs.Common.{drop}
use Rattle.std.specs.List.{AllByRecursion}
use Rattle.share_split.specs.Blobs.{IsNamed}
use Rattle.tx_list.specs.Payments.{blobs_of}
use Rattle.tx_list.proofs.bounds.payments_law.Given as goal

-- all blobs are, where those of the payments that are left are
abbrev pub invariant-loop-payment : goal.invariant-loop-payment
invariant-loop-payment l = AllByRecursion IsNamed (blobs_of (drop l.payment-index l.payments)) → AllByRecursion IsNamed (blobs_of l.payments)
