use Rattle.std.proofs.Common.{◌∙◌, sym, arith}
use Rattle.share_split.proofs.Writing.Starts.{length-units_text-next, starts-pass, starts-stay}
use Rattle.share_split.proofs.texts.next_on.Goals as goal

pub loop-next-preserved : goal.loop-next-preserved
loop-next-preserved c =
    let next = c.loop-next.next in
    record {
      starts = starts-pass c.args.from next.start c.unit_size.result c.args.units.now c.index-units-next.result next.index _
          (omega arith) c.index-units-next.is (omega arith) c.unit_size.ensures c.loop-next.invariant.starts;
      next = omega (arith, length-units_text-next c.args.units.now c.index-units-next.result next.index (omega arith) c.index-units-next.is);
    }

pub returns-else-next-from-clause-starts : goal.returns-else-next-from-clause-starts
returns-else-next-from-clause-starts c =
    sym (starts-stay c.args.from c.loop-next.next.start c.args.units.now c.loop-next.next.index (λ _. omega arith))
    ∙ c.loop-next.invariant.starts

pub returns-after-loop-next-clause-starts : goal.returns-after-loop-next-clause-starts
returns-after-loop-next-clause-starts c =
    sym (starts-stay c.args.from c.loop-next.next.start c.args.units.now c.loop-next.next.index (λ lt. absurd (omega arith)))
    ∙ c.loop-next.invariant.starts
