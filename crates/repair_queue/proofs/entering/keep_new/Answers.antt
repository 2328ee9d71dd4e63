use Rattle.std.proofs.Common.{◌≡◌, ◌∙◌, true, false, sym, subst}
use Rattle.namespace_id.specs.declared.cells.Axis.TheVariants.{Row, Col}
use Rattle.axis_roots.specs.declared.message.messages.Message.{Message}
use Rattle.repair_queue.specs.Counts.{count_of, IsRaised}
use Rattle.repair_queue.specs.Boards.{given_of, decided_of, is_found}
use Rattle.repair_queue.proofs.Feeding.KeepNewLemmas.{room_for, few_row, few_col, keeps_known, keeps_unknown}
use Rattle.repair_queue.proofs.entering.keep_new.Goals as goal

-- its row has room for it
pub put_in-requires-clause-few : goal.put_in-requires-clause-few
put_in-requires-clause-few c =
    room_for c.args.header.now c.args.board.now c.requires.good c.args.message c.requires.under c.requires.off c.requires.empty c.requires.rest

-- its row isn't known whole
pub raise-requires-clause-below : goal.raise-requires-clause-below
raise-requires-clause-below c =
    few_row c.args.header.now c.args.board.now c.requires.good c.args.message c.requires.under c.requires.off c.message.result.now c.message.ensures
    (sym c.is_known-was_known.ensures ∙ c.if-not-was_known.true)

-- nor is its column
pub raise-requires-then-not-was_known-clause-below : goal.raise-requires-then-not-was_known-clause-below
raise-requires-then-not-was_known-clause-below c =
    few_col c.args.header.now c.args.board.now c.requires.good c.args.message c.requires.under c.requires.off c.message.result.now c.message.ensures
    (sym c.is_known-was_known.ensures ∙ c.if-not-was_known.true) c.raise.new.self c.raise.ensures.width c.raise.ensures.raised

-- its cell comes to be known
pub returns-then-not-was_known-clause-kept : goal.returns-then-not-was_known-clause-kept
returns-then-not-was_known-clause-kept c =
    keeps_unknown c.args.header.now c.args.board.now c.requires.good c.args.message c.requires.under c.requires.off c.requires.empty c.put_in.new.pool
    c.put_in.ensures.width c.put_in.ensures.put
    (subst (λ (x : Message). is_found (given_of c.args.board.now) (decided_of c.args.board.now) x.cell ≡ false) c.message.ensures
    (sym c.is_known-was_known.ensures ∙ c.if-not-was_known.true)) c.raise.new.self c.raise-then-not-was_known.new.self c.raise.ensures.width
    c.raise-then-not-was_known.ensures.width
    (subst (λ (x : Message). IsRaised (count_of c.args.board.now.counts) (count_of c.raise.new.self) Row x.cell.row) c.message.ensures c.raise.ensures.raised)
    (subst (λ (x : Message). IsRaised (count_of c.raise.new.self) (count_of c.raise-then-not-was_known.new.self) Col x.cell.col) c.message.ensures
    c.raise-then-not-was_known.ensures.raised) c.raise.ensures.queued c.raise-then-not-was_known.ensures.queued

-- or was
pub returns-else-not-was_known-clause-kept : goal.returns-else-not-was_known-clause-kept
returns-else-not-was_known-clause-kept c =
    keeps_known c.args.header.now c.args.board.now c.requires.good c.args.message c.requires.under c.requires.off c.requires.empty c.put_in.new.pool
    c.put_in.ensures.width c.put_in.ensures.put
    (subst (λ (x : Message). is_found (given_of c.args.board.now) (decided_of c.args.board.now) x.cell ≡ true) c.message.ensures
    (sym c.is_known-was_known.ensures ∙ c.if-not-was_known.false))
