use Rattle.std.proofs.Common.{◌≡◌, ◌++◌, take}
use Rattle.std.specs.List.{flat_map}
use Rattle.tx_list.specs.Measures.{full_of}
use Rattle.tx_list.proofs.bounding.push_all_full.Given as goal

-- those so far are behind what was there
abbrev pub invariant-loop-unit : goal.invariant-loop-unit
invariant-loop-unit l = l.out.items ≡ l.fn.out.items ++ flat_map full_of (take l.unit-index l.units)
