use Rattle.std.proofs.Common.{arith}
use Rattle.frame_payloads.proofs.Forms.CellLoops.{cells_more, cells_end}
use Rattle.frame_payloads.proofs.kinds.missing.cells_of.Goals as goal

pub loop-preserved : goal.loop-preserved
loop-preserved c = record {
  done = rw (c.in_ok-push.ensures.items, c.split_at.ensures.back) (cells_more _ _ c.cell_of.result c.args.count c.loop.counter c.loop.rest.now
      c.loop-test.true c.loop.invariant.done c.cell_of.ensures.row c.cell_of.ensures.col);
  left = omega (arith, c.split_at.ensures.back_len, c.loop.invariant.left);
}

pub returns : goal.returns
returns c = cells_end _ c.loop.cells.items c.args.count c.loop.counter c.loop.rest.now c.loop-test.false c.loop.invariant.done
