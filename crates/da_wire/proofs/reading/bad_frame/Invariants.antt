use Rattle.std.proofs.Common.{◌-◌, length}
use Rattle.da_wire.specs.Reading.{Raw}
use Rattle.da_wire.specs.Frames.{raw_in, bad_frame}
use Rattle.da_wire.proofs.WalkLemmas.{IsAt}
use Rattle.da_wire.proofs.reading.bad_frame.Given as goal

-- the frames so far are whole, and the bytes from here on decide
abbrev pub invariant-loop-at : goal.invariant-loop-at
invariant-loop-at l = IsAt Raw raw_in l.bytes l.at (bad_frame l.bytes)

abbrev pub decreases-loop-at : goal.decreases-loop-at
decreases-loop-at l = length l.bytes - l.at
