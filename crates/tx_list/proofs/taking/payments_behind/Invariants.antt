use Rattle.std.proofs.Common.{◌≡◌, ◌+◌, ◌++◌, ◌≤◌, true, nat_lt, not, filter, drop, map, length}
use Rattle.tx_list.specs.Reads.{is_payment, payment_of}
use Rattle.tx_list.specs.ReadRefusals.{transactions_refusal, read_refusal}
use Rattle.tx_list.proofs.taking.payments_behind.Given as goal

-- what is found of those that are left is what is found, and the plain ones so far and those that are left are all, and so are the
-- payments, where there was memory for each
abbrev pub invariant-loop-i : goal.invariant-loop-i
invariant-loop-i l = record {
  few : l.plain ≤ l.i;
  same : read_refusal l.transactions ≡ transactions_refusal l.i (nat_lt l.plain l.i) (drop l.i l.transactions);
  count : l.plain + length (filter (λ one. not (is_payment one)) (drop l.i l.transactions))
      ≡ length (filter (λ one. not (is_payment one)) l.transactions);
  kept : l.is_whole ≡ true → l.payments.items ++ map payment_of (filter is_payment (drop l.i l.transactions))
      ≡ map payment_of (filter is_payment l.transactions);
}
