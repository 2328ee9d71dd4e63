use Rattle.std.proofs.Common.{◌≡◌, ◌≤◌, length}
use Rattle.da_words.specs.Values.{digits_in}
use Rattle.da_words.proofs.ValueLemmas.{digits_from}
use Rattle.da_words.proofs.values.digits_value.Given as goal

-- the digits before made this number
abbrev pub invariant-loop-digit : goal.invariant-loop-digit
invariant-loop-digit l = record {
  so_far : digits_in l.most l.digits ≡ digits_from l.most l.value l.rest;
  within : l.value ≤ l.most;
}

-- how many bytes are left
abbrev pub decreases-loop-digit : goal.decreases-loop-digit
decreases-loop-digit l = length l.rest
