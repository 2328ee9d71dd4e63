use Rattle.std.proofs.Common.{None}
use Rattle.nmt_tree.specs.Queues.{queued}
use Rattle.da_wire.specs.Frames.{frames_of}
use Rattle.da_judging.proofs.AheadLemmas.{taken_ahead}
use Rattle.da_judging.proofs.ahead.next_leaf.Goals as goal

-- there are no digests
pub returns-then-is_empty-clause-next : goal.returns-then-is_empty-clause-next
returns-then-is_empty-clause-next c =
    let none = queued c.look_ahead.new.queue in
    taken_ahead c.args.k None none none (frames_of c.args.bytes.now) c.look_ahead.ensures.ahead tt (λ e. c.is_empty.ensures.0 c.if-is_empty.true)

-- the first digest is taken
pub returns-clause-next : goal.returns-clause-next
returns-clause-next c =
    taken_ahead c.args.k c.next.result (queued c.look_ahead.new.queue) (queued c.next.new.self) (frames_of c.args.bytes.now)
    c.look_ahead.ensures.ahead c.next.ensures.first c.next.ensures.empty
