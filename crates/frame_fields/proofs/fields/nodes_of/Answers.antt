use Rattle.std.proofs.Common.{ap}
use Rattle.frame_fields.specs.Fields.{digest}
use Rattle.frame_fields.proofs.SplitLoops.{left_next}
use Rattle.frame_fields.proofs.fields.nodes_of.Goals as goal

pub loop-preserved : goal.loop-preserved
loop-preserved c =
    rw c.push.ensures
    (left_next digest 90 c.args.count c.loop.counter _ c.loop.nodes c.digest_of.result c.loop.rest.now c.split_at.result.0.now c.split_at.result.1.now c.loop-test.true c.split_at.ensures.front c.split_at.ensures.back (ap digest c.digest_of.ensures) c.loop.invariant)
