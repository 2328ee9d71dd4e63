use Rattle.std.proofs.Common.{◌∙◌, refl, sym, subst}
use Rattle.repair_queue.specs.Boards.{given_of}
use Rattle.repair_queue.specs.Moves.{IsKeptOn}
use Rattle.repair_queue.proofs.Places.TakeFromLemmas.{same_eq, apart_eq}
use Rattle.repair_queue.proofs.Feeding.KeepNewLemmas.{keeps_lined, keeps_shown, shows_same}
use Rattle.repair_queue.proofs.Feeding.TakeLemmas.{taken_line, taken_against, taken_ends, out_apart, slotted, are_beside, beside_clash}
use Rattle.repair_queue.proofs.entering.take.Goals as goal

-- its decided row or column has its share
pub returns-then-eq-clause-takes : goal.returns-then-eq-clause-takes
returns-then-eq-clause-takes c = (
  subst (IsKeptOn c.args.header.now c.args.board.now c.args.board.now) c.message-shown.ensures
      (keeps_lined c.args.header.now c.args.board.now c.requires.good c.message-shown.result.now c.in-Some.ensures.some.1
      (sym c.cell.ensures ∙ same_eq c.cell.result.now c.message-shown.result.now.share c.eq.result c.eq.ensures c.if-eq.true)),
  c.requires.tools,
)

-- or another one: the line is the header's
pub conflict-requires-clause-line : goal.conflict-requires-clause-line
conflict-requires-clause-line c =
    taken_line c.args.header.now c.args.board.now c.requires.good c.args.message c.requires.under c.message-shown.result.now c.message-shown.ensures c.in-Some.axis c.in-Some.ensures.some.0
    (λ e. apart_eq c.cell.result.now c.message-shown.result.now.share c.eq.result c.eq.ensures c.if-eq.false (c.cell.ensures ∙ e)) c.index-i.result c.index-i.ensures
    c.read_along.new.line c.args.tools.now.line.items c.read_along.ensures c.args.tools.now.line.len c.args.tools.now.line.ok.0 c.requires.tools.line

-- the sample is against it
pub conflict-requires-clause-other : goal.conflict-requires-clause-other
conflict-requires-clause-other c =
    taken_against c.args.header.now c.args.board.now c.requires.good c.args.message c.requires.under c.message-shown.result.now c.message-shown.ensures c.in-Some.axis c.in-Some.ensures.some.0
    (λ e. apart_eq c.cell.result.now c.message-shown.result.now.share c.eq.result c.eq.ensures c.if-eq.false (c.cell.ensures ∙ e)) c.index-i.result c.index-i.ensures
    c.read_along.new.line c.args.tools.now.line.items c.read_along.ensures c.args.tools.now.line.len c.args.tools.now.line.ok.0 c.requires.tools.line

-- which ends the session
pub returns-in-Some-clause-takes : goal.returns-in-Some-clause-takes
returns-in-Some-clause-takes c =
    taken_ends c.args.header.now c.args.board.now c.requires.good c.args.message c.requires.under c.message-shown.result.now c.message-shown.ensures c.in-Some.axis c.in-Some.ensures.some.0
    (λ e. apart_eq c.cell.result.now c.message-shown.result.now.share c.eq.result c.eq.ensures c.if-eq.false (c.cell.ensures ∙ e)) c.index-i.result c.index-i.ensures
    c.read_along.new.line c.args.tools.now.line.items c.read_along.ensures c.args.tools.now.line.len c.args.tools.now.line.ok.0 c.requires.tools.line
    c.conflict.result c.conflict.ensures

-- one that is kept along its axis shows its share
pub returns-then-eq-2-clause-takes : goal.returns-then-eq-2-clause-takes
returns-then-eq-2-clause-takes c = (
  subst (IsKeptOn c.args.header.now c.args.board.now c.args.board.now) c.message-shown.ensures
      (keeps_shown c.args.header.now c.args.board.now c.requires.good c.message-shown.result.now c.message-shown.result.now.axis (c.in_default.ensures.none refl)
      (shows_same (given_of c.args.board.now c.message-shown.result.now.axis c.message-shown.result.now.cell) c.in-Some-held_in.kept.now c.message.result.now c.message-shown.result.now.share
      c.eq-in-Some-held_in.result c.in-Some-held_in.ensures c.message.ensures c.eq-in-Some-held_in.ensures c.if-eq-2.true)),
  c.requires.tools,
)

-- or another one
pub beside-requires-clause-other : goal.beside-requires-clause-other
beside-requires-clause-other c = (slotted c.args.header.now c.args.board.now c.requires.good c.args.message c.unwrap-kept.result c.requires.under c.message-shown.result.now c.message-shown.ensures (sym c.take_out.ensures.value ∙ c.unwrap-kept.ensures)
    (out_apart (given_of c.args.board.now c.message-shown.result.now.axis c.message-shown.result.now.cell) c.in-Some-held_in.kept.now c.unwrap-kept.result c.message.result.now c.message-shown.result.now.share
    c.eq-in-Some-held_in.result c.in-Some-held_in.ensures (sym c.take_out.ensures.value ∙ c.unwrap-kept.ensures) c.message.ensures c.eq-in-Some-held_in.ensures c.if-eq-2.false) (c.in_default.ensures.none refl)).under

pub beside-requires-clause-axis : goal.beside-requires-clause-axis
beside-requires-clause-axis c = sym (are_beside c.args.header.now c.args.board.now c.requires.good c.args.message c.unwrap-kept.result c.requires.under c.message-shown.result.now c.message-shown.ensures (sym c.take_out.ensures.value ∙ c.unwrap-kept.ensures)
    (out_apart (given_of c.args.board.now c.message-shown.result.now.axis c.message-shown.result.now.cell) c.in-Some-held_in.kept.now c.unwrap-kept.result c.message.result.now c.message-shown.result.now.share
    c.eq-in-Some-held_in.result c.in-Some-held_in.ensures (sym c.take_out.ensures.value ∙ c.unwrap-kept.ensures) c.message.ensures c.eq-in-Some-held_in.ensures c.if-eq-2.false) (c.in_default.ensures.none refl)).axis_is

pub beside-requires-clause-cell : goal.beside-requires-clause-cell
beside-requires-clause-cell c = sym (are_beside c.args.header.now c.args.board.now c.requires.good c.args.message c.unwrap-kept.result c.requires.under c.message-shown.result.now c.message-shown.ensures (sym c.take_out.ensures.value ∙ c.unwrap-kept.ensures)
    (out_apart (given_of c.args.board.now c.message-shown.result.now.axis c.message-shown.result.now.cell) c.in-Some-held_in.kept.now c.unwrap-kept.result c.message.result.now c.message-shown.result.now.share
    c.eq-in-Some-held_in.result c.in-Some-held_in.ensures (sym c.take_out.ensures.value ∙ c.unwrap-kept.ensures) c.message.ensures c.eq-in-Some-held_in.ensures c.if-eq-2.false) (c.in_default.ensures.none refl)).cell_is

-- and their collision ends it
pub returns-in-Some-held_in-clause-takes : goal.returns-in-Some-held_in-clause-takes
returns-in-Some-held_in-clause-takes c =
    beside_clash c.args.header.now c.args.board.now c.requires.good c.args.message c.unwrap-kept.result c.requires.under c.message-shown.result.now c.message-shown.ensures (sym c.take_out.ensures.value ∙ c.unwrap-kept.ensures)
    (out_apart (given_of c.args.board.now c.message-shown.result.now.axis c.message-shown.result.now.cell) c.in-Some-held_in.kept.now c.unwrap-kept.result c.message.result.now c.message-shown.result.now.share
    c.eq-in-Some-held_in.result c.in-Some-held_in.ensures (sym c.take_out.ensures.value ∙ c.unwrap-kept.ensures) c.message.ensures c.eq-in-Some-held_in.ensures c.if-eq-2.false) (c.in_default.ensures.none refl)
    c.beside.result.left c.beside.result.right c.beside.ensures

-- one that is kept along the crossing axis does
pub returns-then-shows-clause-takes : goal.returns-then-shows-clause-takes
returns-then-shows-clause-takes c = (
  subst (IsKeptOn c.args.header.now c.args.board.now c.args.board.now) c.message-shown.ensures
      (keeps_shown c.args.header.now c.args.board.now c.requires.good c.message-shown.result.now c.crossing.result (c.in_default.ensures.none refl) (c.shows.ensures.shows c.if-shows.true)),
  c.requires.tools,
)
