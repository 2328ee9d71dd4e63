use Rattle.std.proofs.Common.{◌∙◌, List, sym, subst}
use Rattle.da_wire.specs.declared.frames.RawFrame.{RawFrame}
use Rattle.da_wire.specs.Frames.{frames_of}
use Rattle.da_script.proofs.ItemLemmas.{Sorted, Sized, sorted_on, sorted_past, sorted_all, sized_on, sized_past, sized_all}
use Rattle.da_script.proofs.items.items_in.Goals as goal

-- the frame is an item
pub loop-frame-preserved-in-Ok : goal.loop-frame-preserved-in-Ok
loop-frame-preserved-in-Ok c =
    let all = frames_of c.args.messages.now in
    let some = sym c.is_some.ensures ∙ c.if-is_some.true in
    record {
      items = subst (λ (l : List RawFrame). Sorted l (frames_of c.in-Some.after.now) all) (sym c.in-Ok.ensures.items)
          (sorted_on c.loop-frame.frames.items c.in-Some.frame (frames_of c.loop-frame.rest.now) (frames_of c.in-Some.after.now) all c.in_ok-item_in.field-0
          c.in-Some.ensures.frames c.in_ok-item_in.ensures c.loop-frame.invariant.items some);
      sizes = subst (λ (l : List RawFrame). Sized l (frames_of c.in-Some.after.now) all) (sym c.in-Ok.ensures.items)
          (sized_on c.loop-frame.frames.items c.in-Some.frame (frames_of c.loop-frame.rest.now) (frames_of c.in-Some.after.now) all c.in_ok-item_in.field-0
          c.in-Some.ensures.frames c.in_ok-item_in.ensures c.loop-frame.invariant.sizes some);
    }

-- it is none
pub loop-frame-preserved : goal.loop-frame-preserved
loop-frame-preserved c =
    let none = sym c.is_some.ensures ∙ c.if-is_some.false in
    record {
      items = sorted_past c.loop-frame.frames.items c.in-Some.frame (frames_of c.loop-frame.rest.now) (frames_of c.in-Some.after.now)
          (frames_of c.args.messages.now) c.in_ok-item_in.field-0 c.in-Some.ensures.frames c.in_ok-item_in.ensures c.loop-frame.invariant.items none;
      sizes = sized_past c.loop-frame.frames.items c.in-Some.frame (frames_of c.loop-frame.rest.now) (frames_of c.in-Some.after.now)
          (frames_of c.args.messages.now) c.in_ok-item_in.field-0 c.in-Some.ensures.frames c.in_ok-item_in.ensures c.loop-frame.invariant.sizes none;
    }

-- no frame is left
pub returns : goal.returns
returns c = record {
  items = sorted_all c.loop-frame.frames.items (frames_of c.loop-frame.rest.now) (frames_of c.args.messages.now) c.in_default.ensures.frames
      c.loop-frame.invariant.items;
  sizes = sized_all c.loop-frame.frames.items (frames_of c.loop-frame.rest.now) (frames_of c.args.messages.now) c.in_default.ensures.frames
      c.loop-frame.invariant.sizes;
}
