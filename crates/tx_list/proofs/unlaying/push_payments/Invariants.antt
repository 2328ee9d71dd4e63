use Rattle.std.proofs.Common.{◌≡◌, ◌++◌, drop, map}
use Rattle.tx_list.specs.Spelled.{payment_spelling}
use Rattle.tx_list.specs.BackRefusals.{payment_at, wrappers_refusal}
use Rattle.tx_list.proofs.unlaying.push_payments.Given as goal

-- what is found of the units that are left is what is found, and the payments so far and theirs are all
abbrev pub invariant-loop-i : goal.invariant-loop-i
invariant-loop-i l = record {
  same : wrappers_refusal 0 l.shares l.units ≡ wrappers_refusal l.i l.shares (drop l.i l.units);
  all : l.out.items ++ map payment_spelling (map (payment_at l.shares) (drop l.i l.units))
      ≡ l.fn.out.items ++ map payment_spelling (map (payment_at l.shares) l.units);
}
