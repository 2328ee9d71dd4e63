use Rattle.repair_queue.proofs.Feeding.SharesLemmas.{AreMoved}
use Rattle.repair_queue.proofs.sessions.original_shares.Given as goal

-- so many shares were moved
abbrev pub invariant-loop-i : goal.invariant-loop-i
invariant-loop-i l = AreMoved l.fn.board.grid.k l.i l.fn.board.grid.shares l.shares.items
