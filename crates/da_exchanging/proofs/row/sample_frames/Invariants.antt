use Rattle.da_exchanging.specs.Row.{AreSpelled}
use Rattle.da_exchanging.proofs.RowLemmas.{frames_to}
use Rattle.da_exchanging.proofs.row.sample_frames.Given as goal

-- the frames of the columns before the next were appended
abbrev pub invariant-loop-col : goal.invariant-loop-col
invariant-loop-col l = AreSpelled (frames_to l.samples l.col) l.text.items
