use Rattle.std.proofs.Common.{arith}
use Rattle.tx_list.proofs.UnlayLemmas.{run_stop, run_on, run_end}
use Rattle.tx_list.proofs.unlaying.run_length.Goals as goal

pub returns-then-not-has_namespace : goal.returns-then-not-has_namespace
returns-then-not-has_namespace c =
    run_stop c.args.name.now c.args.shares.now c.loop-count.count _ c.loop-count-test.true c.if-not-has_namespace.ensures c.loop-count.invariant

pub loop-count-preserved : goal.loop-count-preserved
loop-count-preserved c =
    run_on c.args.name.now c.args.shares.now c.loop-count.count _ c.loop-count-test.true c.if-not-has_namespace.ensures c.loop-count.invariant

pub returns : goal.returns
returns c = run_end c.args.name.now c.args.shares.now c.loop-count.count c.loop-count-test.false (omega (arith, c.loop-count.auto.count-end)) c.loop-count.invariant
