use Rattle.std.proofs.Common.{◌*◌, sym, arith}
use Rattle.axis_roots.specs.Lines.{blank}
use Rattle.axis_roots.specs.Grids.{share_at}
use Rattle.axis_roots.proofs.Grids.AxisLemmas.{is_along}
use Rattle.axis_roots.proofs.Grids.WrittenLemmas.{written_next, others_next}
use Rattle.repair_queue.proofs.Lines.WriteLemmas.{later_next}
use Rattle.repair_queue.proofs.keeping.write_line.Goals as goal

-- one share more stands in its cell
pub loop-pos-preserved : goal.loop-pos-preserved
loop-pos-preserved c = record {
  k = omega (arith, c.put_share.ensures.k, c.loop-pos.invariant.k);
  written = written_next c.args.grid.now.k c.loop-pos.grid.k c.loop-pos.grid.shares c.put_share.new.grid.shares c.args.line.now c.args.axis c.args.index
      c.loop-pos.pos c.cell_on.result _ c.loop-pos.invariant.k c.cell_on.ensures c.requires.index (omega arith) c.requires.line c.put_share.ensures.cell
      c.put_share.ensures.others c.loop-pos.invariant.written;
  later = later_next c.args.grid.now.k c.loop-pos.grid.k c.args.grid.now.shares c.loop-pos.grid.shares c.put_share.new.grid.shares c.args.axis c.args.index
      c.loop-pos.pos c.cell_on.result c.loop-pos.invariant.k c.cell_on.ensures c.requires.index c.put_share.ensures.others c.loop-pos.invariant.later;
  others = others_next c.args.grid.now.k c.loop-pos.grid.k c.args.grid.now.shares c.loop-pos.grid.shares c.put_share.new.grid.shares c.args.axis c.args.index
      c.loop-pos.pos c.cell_on.result c.loop-pos.invariant.k c.cell_on.ensures c.put_share.ensures.others c.loop-pos.invariant.others;
}

-- at the end these are the line's
pub returns-clause-line : goal.returns-clause-line
returns-clause-line c =
    sym (is_along c.args.grid.now.k (share_at (2 * c.args.grid.now.k) c.loop-pos.grid.shares) c.args.axis c.args.index blank c.args.line.now
    c.requires.line (λ pos h. sym (c.loop-pos.invariant.written pos (omega arith))))
