use Rattle.std.proofs.Common.{◌∙◌, sym, arith}
use Rattle.da_files.proofs.RequestLemmas.{failing_none, failing_here, failing_later}
use Rattle.da_serving.proofs.serving.first_refused.Goals as goal

pub returns-then-not-passes : goal.returns-then-not-passes
returns-then-not-passes g c =
    sym (c.loop-next.invariant.first
    ∙ failing_here (g.S.Server.passes c.args.square.now) c.loop-next.number _ _ _ c.in-Some.ensures.0 (sym c.passes.ensures ∙ c.if-not-passes.true))

pub loop-next-preserved : goal.loop-next-preserved
loop-next-preserved g c = record {
  first = c.loop-next.invariant.first
      ∙ failing_later (g.S.Server.passes c.args.square.now) c.loop-next.number _ _ _ c.in-Some.ensures.0 (sym c.passes.ensures ∙ c.if-not-passes.false);
  few = omega (arith, c.loop-next.invariant.few, c.in-Some.ensures.1);
}

pub returns : goal.returns
returns g c =
    sym (c.loop-next.invariant.first ∙ failing_none (g.S.Server.passes c.args.square.now) c.loop-next.number _ c.in_default.ensures)
