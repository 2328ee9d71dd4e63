use Rattle.std.proofs.Common.{◌≡◌, ◌++◌, take}
use Rattle.tx_list.proofs.spelling.push_units.Given as goal

-- those so far are there
abbrev pub invariant-loop-unit : goal.invariant-loop-unit
invariant-loop-unit l = l.out.items ≡ l.fn.out.items ++ take l.unit-index l.units
