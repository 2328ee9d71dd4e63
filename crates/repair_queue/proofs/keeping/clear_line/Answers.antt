use Rattle.std.proofs.Common.{◌∙◌, refl, inl, arith}
use Rattle.repair_queue.specs.Pools.{slot_in}
use Rattle.repair_queue.proofs.Lines.ClearLemmas.{cleared_next}
use Rattle.repair_queue.proofs.keeping.clear_line.Goals as goal

-- none is out at first
pub loop-pos-init : goal.loop-pos-init
loop-pos-init c = record {
  width = refl;
  cleared = record { here = λ own pos h. absurd (omega arith); each = λ own cell. inl refl };
  room = λ roomy. roomy;
}

-- those of one cell more are out
pub loop-pos-preserved : goal.loop-pos-preserved
loop-pos-preserved c = record {
  width = c.clear_cell.ensures.width ∙ c.loop-pos.invariant.width;
  cleared = cleared_next (slot_in c.args.pool.now) (slot_in c.loop-pos.pool) (slot_in c.clear_cell.new.pool) c.args.axis c.args.index c.loop-pos.pos c.cell_on.result
      c.cell_on.ensures c.loop-pos.invariant.cleared c.clear_cell.ensures.cleared;
  room = λ roomy. c.clear_cell.ensures.capacity (c.loop-pos.invariant.room roomy);
}

-- at the end all are
pub returns-clause-cleared : goal.returns-clause-cleared
returns-clause-cleared c = record {
  here = λ own pos h. c.loop-pos.invariant.cleared.here own pos (omega (arith, h, c.requires.k));
  each = c.loop-pos.invariant.cleared.each;
}
