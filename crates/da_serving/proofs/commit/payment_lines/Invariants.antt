use Rattle.std.proofs.Common.{◌≡◌, ◌++◌, length}
use Rattle.std.specs.List.{AllByRecursion}
use Rattle.tx_list.specs.Payments.{blobs_of}
use Rattle.da_serving.specs.Commit.{commitment_lines}
use Rattle.da_serving.proofs.CommitLemmas.{IsLaid}
use Rattle.da_serving.proofs.commit.payment_lines.Given as goal

-- the lines of the payments before were appended, and those to come have such blobs
abbrev pub invariant-loop-payment : goal.invariant-loop-payment
invariant-loop-payment l = record {
  so_far : commitment_lines (blobs_of l.payments) ≡ l.text.items ++ commitment_lines (blobs_of l.rest);
  laid : AllByRecursion (λ payment. AllByRecursion IsLaid payment.blobs) l.rest;
}

-- how many payments are left
abbrev pub decreases-loop-payment : goal.decreases-loop-payment
decreases-loop-payment l = length l.rest
