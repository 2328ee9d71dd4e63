use Rattle.std.proofs.Common.{◌∙◌, sym, arith}
use Rattle.frame_payloads.proofs.Forms.CellLoops.{next_more, next_fails, next_end}
use Rattle.frame_payloads.proofs.kinds.missing.are_next.Goals as goal

pub returns-then-not-is_next : goal.returns-then-not-is_next
returns-then-not-is_next c =
    next_fails c.args.k c.args.count c.loop.counter c.loop.before c.cell_of-cell.result c.loop.rest.now _ c.loop-test.true
    c.cell_of-cell.ensures.row c.cell_of-cell.ensures.col (sym c.is_next.ensures ∙ c.if-not-is_next.true) c.loop.invariant.decides

pub loop-preserved : goal.loop-preserved
loop-preserved c = record {
  decides = rw c.split_at.ensures.back (next_more c.args.k c.args.count c.loop.counter c.loop.before c.cell_of-cell.result c.loop.rest.now _ c.loop-test.true
      c.cell_of-cell.ensures.row c.cell_of-cell.ensures.col (sym c.is_next.ensures ∙ c.if-not-is_next.false) c.loop.invariant.decides);
  left = omega (arith, c.split_at.ensures.back_len, c.loop.invariant.left);
}

pub returns : goal.returns
returns c = next_end c.args.k c.args.count c.loop.counter c.loop.before c.loop.rest.now _ c.loop-test.false c.loop.invariant.decides
