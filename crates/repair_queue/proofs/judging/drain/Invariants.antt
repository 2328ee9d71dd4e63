use Rattle.std.proofs.Common.{List, ◌+◌, ◌-◌, ◌*◌}
use Rattle.axis_roots.specs.declared.message.messages.Message.{Message}
use Rattle.repair_queue.specs.Pools.{KeepsCapacity}
use Rattle.repair_queue.specs.Boards.{decided_of, IsGood, HoldsFor}
use Rattle.repair_queue.specs.Tools.{AreTools}
use Rattle.repair_queue.proofs.Counting.CountLemmas.{undecided_count}
use Rattle.repair_queue.proofs.judging.drain.Given as goal

-- the board is good, and stands for all that it stood for
abbrev pub invariant-loop-axis : goal.invariant-loop-axis
invariant-loop-axis l = record {
  good : IsGood l.header l.board;
  tools : AreTools l.header.k l.tools;
  holds : (ms : List Message) → HoldsFor l.header ms l.fn.board → HoldsFor l.header ms l.board;
  room : KeepsCapacity l.fn.board.pool l.board.pool;
}

-- each turn decides a row or a column, or passes one of the queue
abbrev pub decreases-loop-axis : goal.decreases-loop-axis
decreases-loop-axis l = undecided_count (2 * l.header.k) (decided_of l.board) + (4 * l.header.k - l.board.counts.next)
