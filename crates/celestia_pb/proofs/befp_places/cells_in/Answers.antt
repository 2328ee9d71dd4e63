use Rattle.std.proofs.Common.{sym, ◌∙◌, arith}
use Rattle.celestia_pb.proofs.PlaceLoops.{places_at-end, places_at-full, cells_ended, right_more, cells_more}
use Rattle.celestia_pb.proofs.befp_places.cells_in.Goals as goal

-- no more are there
pub returns-then-not-begins_part : goal.returns-then-not-begins_part
returns-then-not-begins_part c =
    cells_ended c.args.accused c.loop-seen.seen.place c.loop-seen.cells.items _ _ c.loop-seen.seen c.loop-seen.rest.now c.loop-seen.invariant.all
    (places_at-end c.args.known c.args.most _ c.loop-seen.seen c.loop-seen.rest.now (sym c.begins_part.ensures ∙ c.if-not-begins_part.true))

-- one more is read
pub loop-seen-preserved : goal.loop-seen-preserved
loop-seen-preserved c =
    let there = sym c.begins_part.ensures ∙ c.if-not-begins_part.false in record {
      all = cells_more c.args.known c.args.most c.loop-seen.seen c.loop-seen.rest.now c.in-Ok.sample c.in-Ok.next c.in-Ok.after.now
          c.loop-seen-test.true there c.in-Ok.ensures.value c.in-Ok.ensures.place c.args.accused c.loop-seen.cells.items c.add_cell.new.cells.items _
          c.loop-seen.invariant.right c.loop-seen.invariant.all c.in_ok-add_cell.ensures;
      right = right_more c.args.known c.args.most c.loop-seen.seen c.loop-seen.rest.now c.in-Ok.sample c.in-Ok.next c.in-Ok.after.now
          c.loop-seen-test.true there c.in-Ok.ensures.value c.in-Ok.ensures.place c.loop-seen.invariant.right;
      few = omega (arith, c.in-Ok.ensures.place, c.loop-seen-test.true);
      shares = c.in-Ok.ensures.shares;
    }

-- no more may be there
pub returns : goal.returns
returns c =
    cells_ended c.args.accused c.loop-seen.seen.place c.loop-seen.cells.items _ _ c.loop-seen.seen c.loop-seen.rest.now c.loop-seen.invariant.all
    (places_at-full c.args.known c.args.most c.loop-seen.seen c.loop-seen.rest.now c.loop-seen-test.false)
