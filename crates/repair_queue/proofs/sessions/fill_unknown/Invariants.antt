use Rattle.namespace_id.proofs.BelowLemmas.{IsFilling}
use Rattle.repair_queue.specs.Sessions.{IsNotFound}
use Rattle.repair_queue.proofs.sessions.fill_unknown.Given as goal

-- the unknown cells so far
abbrev pub invariant-loop-number : goal.invariant-loop-number
invariant-loop-number l = IsFilling l.board.grid.k (IsNotFound l.board) l.number l.room
