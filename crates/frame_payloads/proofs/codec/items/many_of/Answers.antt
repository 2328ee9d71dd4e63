use Rattle.frame_payloads.proofs.Fields.Many.{kept_more, next_some}
use Rattle.frame_payloads.proofs.codec.items.many_of.Goals as goal

-- the next value can be read
pub read-requires : goal.read-requires
read-requires g c = next_some g.T.Item.at c.args.count c.loop.counter c.loop.rest.now c.loop.items.items _ c.loop-test.true c.requires c.loop.invariant

-- it is kept
pub loop-preserved : goal.loop-preserved
loop-preserved g c =
    rw c.in_ok-push.ensures.items
    (kept_more g.T.Item.at c.args.count c.loop.counter c.loop.rest.now c.loop.items.items c.in_ok-item.item c.in_ok-item.after.now _ c.loop-test.true c.in_ok-item.ensures c.loop.invariant)
