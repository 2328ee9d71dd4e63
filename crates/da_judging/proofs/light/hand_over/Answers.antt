use Rattle.std.proofs.Common.{◌∙◌, sym}
use Rattle.da_wire.specs.Reading.{raw_seen}
use Rattle.da_wire.specs.Frames.{frames_of}
use Rattle.da_judging.proofs.NodeLemmas.{handed_on, handed_past, handed_all, same_on}
use Rattle.da_judging.proofs.light.hand_over.Goals as goal

-- the frame is an event
pub loop-frame-preserved-in-Some-2 : goal.loop-frame-preserved-in-Some-2
loop-frame-preserved-in-Some-2 g c = record {
  handed = handed_on g.F.Picker.picks c.args.node.now (frames_of c.args.messages.now) c.loop-frame.node
      c.event-state.new.self _ _ (raw_seen c.in-Some.frame)
      c.in-Some-2.event c.in-Some.ensures.frames (sym c.in_ok-event.ensures ∙ c.in-Some-2.is)
      c.event-state.ensures.stands c.loop-frame.invariant.handed;
  kept = same_on c.args.node.now c.loop-frame.node c.event-state.new.self c.loop-frame.invariant.kept
      c.event-state.ensures.kept;
}

-- the frame is none
pub loop-frame-preserved : goal.loop-frame-preserved
loop-frame-preserved g c = record {
  handed = handed_past g.F.Picker.picks c.args.node.now (frames_of c.args.messages.now) c.loop-frame.node _ _
      (raw_seen c.in-Some.frame)
      c.in-Some.ensures.frames (sym c.in_ok-event.ensures ∙ c.in_default-2.is) c.loop-frame.invariant.handed;
  kept = c.loop-frame.invariant.kept;
}

pub returns-clause-stands : goal.returns-clause-stands
returns-clause-stands g c =
    handed_all g.F.Picker.picks c.args.node.now (frames_of c.args.messages.now) c.loop-frame.node _
    c.in_default.ensures.frames c.loop-frame.invariant.handed
