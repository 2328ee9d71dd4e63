use Rattle.std.proofs.Common.{length}
use Rattle.da_wire.specs.Frames.{frames_of}
use Rattle.da_script.proofs.ItemLemmas.{Sorted, Sized}
use Rattle.da_script.proofs.items.items_in.Given as goal

-- the frames so far that are items were kept
abbrev pub invariant-loop-frame : goal.invariant-loop-frame
invariant-loop-frame l = record {
  items : Sorted l.frames.items (frames_of l.rest) (frames_of l.messages);
  sizes : Sized l.frames.items (frames_of l.rest) (frames_of l.messages);
}

-- how many bytes are left
abbrev pub decreases-loop-frame : goal.decreases-loop-frame
decreases-loop-frame l = length l.rest
