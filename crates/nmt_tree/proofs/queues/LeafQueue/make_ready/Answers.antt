use Rattle.std.proofs.Common.{◌≡◌, ◌-◌, length, ap, arith}
use Rattle.nmt_tree.proofs.QueueLemmas.{ready_count}
use Rattle.nmt_tree.proofs.queues.LeafQueue.make_ready.Goals as goal

-- a digest is ready that was not given
pub returns-else-self-clause-ready : goal.returns-else-self-clause-ready
returns-else-self-clause-ready c = λ none.
    let count : length c.args.self.now.ready ≡ c.self.inside.hashed - c.self.inside.given =
    ready_count c.args.self.now c.self.inside.given c.self.inside.hashed c.self.inside.digests _ (omega (arith, c.self.invariant.hashed_few)) c.self.view_is in
    absurd (omega (arith, ap length none, c.self.invariant.given_few, c.if-self.false))
