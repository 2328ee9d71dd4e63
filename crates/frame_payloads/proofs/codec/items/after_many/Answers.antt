use Rattle.std.proofs.Common.{◌++◌, ◌∷◌, []}
use Rattle.frame_payloads.proofs.Fields.Many.{rest_some, rest_none, kept_first, kept_more, kept_none, kept_all}
use Rattle.frame_payloads.proofs.codec.items.after_many.Goals as goal

-- at first there are none
pub loop-init : goal.loop-init
loop-init g c = ([], kept_first g.T.Item.at c.args.count c.args.bytes.now)

-- the next value can't be read
pub returns-in_err-after : goal.returns-in_err-after
returns-in_err-after g c =
    rw c.from_residual.ensures
    (kept_none g.T.Item.at c.args.count c.loop.counter c.loop.rest.now c.loop.invariant.0 _ c.loop-test.true (rest_none (g.T.Item.at c.loop.rest.now) c.in_err-after.ensures) c.loop.invariant.1)

-- it is passed over
pub loop-preserved : goal.loop-preserved
loop-preserved g c =
    let next = rest_some (g.T.Item.at c.loop.rest.now) c.in_ok-after.after.now c.in_ok-after.ensures in
    (c.loop.invariant.0 ++ next.0 ∷ [], kept_more g.T.Item.at c.args.count c.loop.counter c.loop.rest.now c.loop.invariant.0 next.0 c.in_ok-after.after.now _ c.loop-test.true next.1 c.loop.invariant.1)

-- none are left
pub returns : goal.returns
returns g c = (c.loop.invariant.0, kept_all g.T.Item.at c.args.count c.loop.counter c.loop.rest.now c.loop.invariant.0 _ c.loop-test.false c.loop.invariant.1)
