use Rattle.std.proofs.Common.{take}
use Rattle.std.specs.List.{All}
use Rattle.namespace_id.specs.Bytes.{AreBytes}
use Rattle.da_wire.proofs.bounds.units_law.Given as goal

-- so are those before this one
abbrev pub invariant-loop-unit : goal.invariant-loop-unit
invariant-loop-unit l = All AreBytes (take l.unit-index l.units)
