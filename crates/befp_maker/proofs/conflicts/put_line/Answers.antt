use Rattle.std.proofs.Common.{◌∙◌, refl, sym, ap, subst, arith}
use Rattle.axis_roots.specs.Lines.{entry}
use Rattle.befp_maker.specs.Rooms.{RoomParts}
use Rattle.befp_maker.specs.Gathered.{IsContinued}
use Rattle.befp_maker.proofs.GatheredLemmas.{continued_none, continued_more}
use Rattle.befp_maker.proofs.conflicts.put_line.Goals as goal

-- none yet
pub loop-pos-init : goal.loop-pos-init
loop-pos-init c = record {
  same = refl;
  made = continued_none c.args.header.now c.args.axis c.args.index c.args.room.now.shares c.args.from _ c.args.cells.now.items (omega arith);
  len = omega arith;
  space = omega arith;
}

-- one more
pub loop-pos-preserved : goal.loop-pos-preserved
loop-pos-preserved c = record {
  same = c.proved.ensures.kept ∙ c.loop-pos.invariant.same;
  made = subst (IsContinued c.args.header.now c.args.axis c.args.index c.args.room.now.shares _ c.args.cells.now.items) (sym c.put_cell.ensures.appended)
      (continued_more c.args.header.now c.args.axis c.args.index c.args.room.now.shares c.args.from c.loop-pos.pos c.proved.result c.args.cells.now.items _ (omega arith)
      (record {
        under = c.proved.ensures.under;
        cell = c.proved.ensures.cell;
        share = c.proved.ensures.share ∙ ap (λ (r : RoomParts). entry r.shares c.loop-pos.pos) c.loop-pos.invariant.same;
      }) c.loop-pos.invariant.made);
  len = omega arith;
  space = omega arith;
}
