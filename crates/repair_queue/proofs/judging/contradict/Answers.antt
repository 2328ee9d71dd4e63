use Rattle.std.proofs.Common.{◌≡◌, true, sym, subst}
use Rattle.namespace_id.specs.declared.cells.Cell.{Cell}
use Rattle.namespace_id.specs.Cells.{is_in_square}
use Rattle.repair_queue.proofs.Feeding.JudgeLemmas.{other_fact}
use Rattle.repair_queue.proofs.judging.contradict.Goals as goal
use Rattle.axis_roots.proofs.Grids.WrittenLemmas.{on_axis_in_square}

-- the other share is a fact
pub returns : goal.returns
returns c = λ ms facts stand.
    c.conflict.ensures ms facts
    (other_fact c.args.header.now ms c.args.board.now c.cell_on-cell.result _ c.message_other-other.result
    (subst (λ (x : Cell). is_in_square c.args.header.now.k x ≡ true) (sym c.cell_on-cell.ensures)
    (on_axis_in_square c.args.header.now.k c.args.axis c.args.index c.args.pos c.requires.index c.requires.pos)) c.requires.readable stand c.message_other-other.ensures.message)
