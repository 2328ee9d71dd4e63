use Rattle.std.proofs.Common.{◌∙◌, arith}
use Rattle.share_split.proofs.Writing.Starts.{on_more, on_stop, on_end}
use Rattle.share_split.proofs.parsing.starts_on.Goals.{then-loop-before-test+else-starts-before, else-loop-before-test}
use Rattle.share_split.proofs.parsing.starts_on.Goals as goal

-- one start more lies before the place
pub loop-before-preserved : goal.loop-before-preserved
loop-before-preserved c = record {
  within = omega arith;
  rest = on_more c.args.from c.loop-before.before c.args.starts.now c.loop-before-test.true c.if-starts-before.true ∙ c.loop-before.invariant.rest;
}

-- the next start doesn't lie before the place, or none is left
pub returns : goal.returns
returns c =
    c.split_at.ensures.back
    ∙ elim c.loop-before-test.branch [
      | then-loop-before-test+else-starts-before w ↦ on_stop c.args.from c.loop-before.before c.args.starts.now w.loop-before-test.true w.if-starts-before.false
      | else-loop-before-test w ↦ on_end c.args.from c.loop-before.before c.args.starts.now w.loop-before-test.false
    ]
    ∙ c.loop-before.invariant.rest
