use Rattle.std.proofs.Common.{◌≡◌, ◌++◌, map, take}
use Rattle.tx_list.specs.Spelled.{payment_spelling}
use Rattle.tx_list.proofs.spelling.push_payments.Given as goal

-- those so far are there
abbrev pub invariant-loop-payment : goal.invariant-loop-payment
invariant-loop-payment l = l.out.items ≡ l.fn.out.items ++ map payment_spelling (take l.payment-index l.payments)
