use Rattle.std.proofs.Common.{◌≡◌, ◌+◌, ◌*◌, ◌<◌, refl, arith, drop}
use Rattle.repair_queue.specs.Boards.{decided_of}
use Rattle.repair_queue.proofs.Counting.CountLemmas.{undecided_count, undecided-falls}
use Rattle.repair_queue.proofs.Feeding.DrainLemmas.{none_is, ends_drains, decided_none, passed_good, rested}
use Rattle.repair_queue.proofs.judging.drain.Goals as goal

-- deciding ends the session
pub returns-then-is_some-clause-drains : goal.returns-then-is_some-clause-drains
returns-then-is_some-clause-drains c =
    ends_drains c.args.header.now c.args.board.now c.loop-axis.board c.decide-ended.new.board c.decide-ended.new.tools c.decide-ended.result c.is_some.result
    c.is_some.ensures c.if-is_some.true c.loop-axis.invariant.holds c.decide-ended.ensures.decides

-- one row or column less is undecided
pub loop-axis-smaller-else-is_some-3 : goal.loop-axis-smaller-else-is_some-3
loop-axis-smaller-else-is_some-3 c =
    let due = c.is_due.ensures.due c.if-is_due.true in
    let none = none_is c.decide-ended.result c.is_some.result c.is_some.ensures c.if-is_some.false in
    let falls : undecided_count (2 * c.args.header.now.k) (decided_of c.decide-ended.new.board) < undecided_count (2 * c.args.header.now.k) (decided_of c.loop-axis.board) =
    undecided-falls (2 * c.args.header.now.k) (decided_of c.loop-axis.board) (decided_of c.decide-ended.new.board) c.in-Some.axis c.in-Some.index due.0 due.1
    (c.decide-ended.ensures.flagged none) in
    let same : c.decide-ended.new.board.counts.next ≡ c.loop-axis.board.counts.next = c.decide-ended.ensures.next none in
    omega (arith, falls, same)

-- it is decided
pub loop-axis-preserved-else-is_some-3 : goal.loop-axis-preserved-else-is_some-3
loop-axis-preserved-else-is_some-3 c =
    let x = decided_none c.args.header.now c.loop-axis.board c.decide-ended.new.board c.decide-ended.new.tools c.decide-ended.result c.is_some.result c.is_some.ensures
    c.if-is_some.false c.decide-ended.ensures.decides in record {
      good = x.0;
      tools = x.1;
      holds = λ ms before. x.2 ms (c.loop-axis.invariant.holds ms before);
      room = λ roomy.
          c.decide-ended.ensures.capacity (none_is c.decide-ended.result c.is_some.result c.is_some.ensures c.if-is_some.false) (c.loop-axis.invariant.room roomy);
    }

-- or it isn't due
pub loop-axis-preserved : goal.loop-axis-preserved
loop-axis-preserved c = record {
  good = passed_good c.args.header.now c.loop-axis.board c.pass_queued.new.self c.in-Some.axis c.in-Some.index
      (drop (c.loop-axis.board.counts.next + 1) c.loop-axis.board.counts.queue.items) c.loop-axis.invariant.good c.pass_queued.ensures.width
      c.pass_queued.ensures.same c.in-Some.ensures.some c.pass_queued.ensures.rest (c.is_due.ensures.past c.if-is_due.false);
  tools = c.loop-axis.invariant.tools;
  holds = c.loop-axis.invariant.holds;
  room = c.loop-axis.invariant.room;
}

-- nothing waits
pub returns-clause-drains : goal.returns-clause-drains
returns-clause-drains c = (
  c.loop-axis.invariant.good,
  c.loop-axis.invariant.tools,
  rested c.args.header.now c.loop-axis.board c.loop-axis.invariant.good (c.in_default.ensures.none refl),
  c.loop-axis.invariant.holds,
)
