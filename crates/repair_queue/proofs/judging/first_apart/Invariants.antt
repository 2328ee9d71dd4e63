use Rattle.std.proofs.Common.{ℕ, ◌<◌}
use Rattle.axis_roots.specs.Lines.{cell_on, entry}
use Rattle.repair_queue.specs.Boards.{given_of, decided_of, shared_of}
use Rattle.repair_queue.specs.Judging.{IsAlikeAt}
use Rattle.repair_queue.proofs.judging.first_apart.Given as goal

-- no other shares are known of the cells that were looked at
abbrev pub invariant-loop-pos : goal.invariant-loop-pos
invariant-loop-pos l = (pos : ℕ) → pos < l.pos
    → IsAlikeAt (given_of l.board) (decided_of l.board) (shared_of l.board) (cell_on l.axis l.index pos) (entry l.line pos)
