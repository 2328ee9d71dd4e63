use Rattle.axis_roots.specs.Proved.{kept_message}
use Rattle.repair_queue.proofs.Feeding.DrainLemmas.{taken_none, steps_of}
use Rattle.repair_queue.proofs.entering.step.Goals as goal

-- the sample was taken in
pub drain-requires-clause-tools : goal.drain-requires-clause-tools
drain-requires-clause-tools c =
    (taken_none c.args.header.now c.args.board.now c.take-ended.new.board c.take-ended.new.tools (kept_message c.args.message) c.take-ended.result c.is_some.result
    c.is_some.ensures c.if-is_some.false c.take-ended.ensures.takes).1

-- and what it lets decide is
pub returns-clause-steps : goal.returns-clause-steps
returns-clause-steps c =
    steps_of c.args.header.now c.args.board.now c.take-ended.new.board c.drain.new.board c.drain.new.tools (kept_message c.args.message) c.drain.result
    (taken_none c.args.header.now c.args.board.now c.take-ended.new.board c.take-ended.new.tools (kept_message c.args.message) c.take-ended.result c.is_some.result
    c.is_some.ensures c.if-is_some.false c.take-ended.ensures.takes).0 c.drain.ensures.drains
