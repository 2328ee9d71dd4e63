use Rattle.std.proofs.Common.{◌≡◌, ◌++◌, true, length}
use Rattle.tx_list.specs.Unwrapped.{numbers_in, are_small}
use Rattle.tx_list.proofs.unwrapping.places_in.Given as goal

-- the numbers so far, which have 32 bits, and those that are left are all
abbrev pub invariant-loop-number : goal.invariant-loop-number
invariant-loop-number l = record {
  all : numbers_in l.fn.bytes ≡ l.places.items ++ numbers_in l.rest;
  small : are_small l.places.items ≡ true;
}

abbrev pub decreases-loop-number : goal.decreases-loop-number
decreases-loop-number l = length l.rest
