use Rattle.std.proofs.Common.{length}
use Rattle.light_node.specs.Nodes.{IsSameNode}
use Rattle.da_wire.specs.Frames.{frames_of}
use Rattle.da_judging.proofs.NodeLemmas.{Handed}
use Rattle.da_judging.proofs.light.hand_over.Given as goal

-- the node was handed the events of the frames before
abbrev pub invariant-loop-frame : goal.invariant-loop-frame
invariant-loop-frame g l = record {
  handed : Handed g.F.Picker.picks l.fn.node (frames_of l.messages) l.node (frames_of l.rest);
  kept : IsSameNode l.fn.node l.node;
}

-- how many bytes are left
abbrev pub decreases-loop-frame : goal.decreases-loop-frame
decreases-loop-frame g l = length l.rest
