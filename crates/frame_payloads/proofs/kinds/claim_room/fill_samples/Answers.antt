use Rattle.std.proofs.Common.{arith}
use Rattle.frame_fields.specs.Messages.{message_front}
use Rattle.frame_payloads.proofs.Fields.Many.{gives_some, gives_value, kept_more, next_some}
use Rattle.frame_payloads.proofs.kinds.claim_room.fill_samples.Goals as goal

-- the next sample can be read
pub unwrap-cell-requires : goal.unwrap-cell-requires
unwrap-cell-requires c =
    gives_some _ c.message_front.result (message_front c.loop.rest.now) c.message_front.ensures
    (next_some message_front c.args.count c.loop.counter c.loop.rest.now c.loop.list.items _ c.loop-test.true c.requires.samples c.loop.invariant.all)

-- it is kept
pub loop-preserved : goal.loop-preserved
loop-preserved c = record {
  all = rw c.add.ensures.items
      (kept_more message_front c.args.count c.loop.counter c.loop.rest.now c.loop.list.items c.unwrap-cell.result.0 c.unwrap-cell.result.1.now _ c.loop-test.true
      (gives_value _ c.message_front.result (message_front c.loop.rest.now) c.unwrap-cell.result c.message_front.ensures c.unwrap-cell.ensures) c.loop.invariant.all);
  len = omega (arith, c.add.ensures.len, c.loop.invariant.len);
  capacity = omega (arith, c.add.ensures.capacity, c.loop.invariant.capacity);
}
