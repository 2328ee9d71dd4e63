use Rattle.std.proofs.Common.{arith}
use Rattle.repair_queue.specs.Boards.{given_of, decided_of, shared_of}
use Rattle.repair_queue.proofs.Places.TakeFromLemmas.{next_alike}
use Rattle.repair_queue.proofs.judging.first_apart.Goals as goal

-- one position more
pub loop-pos-preserved : goal.loop-pos-preserved
loop-pos-preserved c =
    next_alike (given_of c.args.board.now) (decided_of c.args.board.now) (shared_of c.args.board.now) c.args.axis c.args.index c.loop-pos.pos c.args.line.now
    c.cell_on.result _ c.cell_on.ensures (omega arith) (c.is_apart.ensures.alike c.if-is_apart.false) c.loop-pos.invariant
