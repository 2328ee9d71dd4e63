use Rattle.std.proofs.Common.{ap, arith}
use Rattle.frame_fields.specs.Fields.{digest}
use Rattle.frame_fields.proofs.SplitLoops.{values_more}
use Rattle.frame_fields.proofs.fields.fill_digests.Goals as goal

pub loop-preserved : goal.loop-preserved
loop-preserved c = record {
  done = rw c.add.ensures.items (values_more digest 90 _ _ c.digest_of.result c.args.count c.loop.counter c.loop.rest.now c.split_at.result.0.now c.split_at.result.1.now
      c.loop-test.true c.loop.invariant.done c.split_at.ensures.front c.split_at.ensures.back (ap digest c.digest_of.ensures));
  len = omega (arith, c.add.ensures.len, c.loop.invariant.len);
  left = omega (arith, c.split_at.ensures.back_len, c.loop.invariant.left);
  capacity = omega (arith, c.add.ensures.capacity, c.loop.invariant.capacity);
}
