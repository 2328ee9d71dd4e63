use Rattle.std.proofs.Common.{◌-◌, length}
use Rattle.da_wire.specs.declared.frames.Frame.{Frame}
use Rattle.da_wire.specs.Values.{value_in, bad_value}
use Rattle.da_wire.proofs.WalkLemmas.{IsAt}
use Rattle.da_wire.proofs.reading.bad_value.Given as goal

-- the frames so far are in the grammar, and the bytes from here on decide
abbrev pub invariant-loop-at : goal.invariant-loop-at
invariant-loop-at l = IsAt Frame (value_in l.kinds) l.bytes l.at (bad_value l.kinds l.bytes)

abbrev pub decreases-loop-at : goal.decreases-loop-at
decreases-loop-at l = length l.bytes - l.at
