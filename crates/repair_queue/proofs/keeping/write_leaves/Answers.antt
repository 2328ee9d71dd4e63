use Rattle.std.proofs.Common.{◌∙◌, refl, arith}
use Rattle.std.proofs.lemmas.List.{length-set}
use Rattle.repair_queue.proofs.Lines.WriteLemmas.{one_written}
use Rattle.repair_queue.proofs.keeping.write_leaves.Goals as goal

-- none is written
pub loop-pos-init : goal.loop-pos-init
loop-pos-init c = record {
  count = c.requires.leaves;
  written = record { here = λ pos h. absurd (omega arith); elsewhere = λ cell h apart. refl };
}

-- one more
pub loop-pos-preserved : goal.loop-pos-preserved
loop-pos-preserved c = record {
  count = length-set c.loop-pos.leaves.items c.number.result _ ∙ c.loop-pos.invariant.count;
  written = one_written c.args.k c.args.leaves.now.items c.loop-pos.leaves.items c.args.axis c.args.index c.args.digests.now c.loop-pos.pos c.number.result c.cell_on.result _
      c.requires.index (omega arith) c.loop-pos.invariant.count c.requires.digests c.cell_on.ensures c.number.ensures.value c.loop-pos.invariant.written;
}

-- all are
pub returns-clause-written : goal.returns-clause-written
returns-clause-written c = record { here = λ pos h. c.loop-pos.invariant.written.here pos (omega arith); elsewhere = c.loop-pos.invariant.written.elsewhere }
