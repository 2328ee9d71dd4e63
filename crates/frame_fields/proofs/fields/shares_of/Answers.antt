use Rattle.std.proofs.Common.{ap}
use Rattle.namespace_id.specs.Shares.{share_of}
use Rattle.frame_fields.proofs.SplitLoops.{left_next, values_end}
use Rattle.frame_fields.proofs.fields.shares_of.Goals as goal

pub loop-preserved : goal.loop-preserved
loop-preserved c =
    rw c.in_ok-push.ensures.items
    (left_next share_of 512 c.args.count c.loop.counter _ c.loop.shares.items c.share_of.result c.loop.rest.now c.split_at.result.0.now c.split_at.result.1.now c.loop-test.true c.split_at.ensures.front c.split_at.ensures.back (ap share_of c.share_of.ensures) c.loop.invariant)

pub returns-clause-value : goal.returns-clause-value
returns-clause-value c = values_end share_of 512 _ c.loop.shares.items c.args.count c.loop.counter c.loop.rest.now c.loop-test.false c.loop.invariant.done
