use Rattle.std.proofs.Common.{◌∙◌, ◌<◌, List, length, sym, ap, subst}
use Rattle.namespace_id.specs.declared.cells.Cell.{Cell}
use Rattle.data_header.specs.Headers.{Roots}
use Rattle.repair_queue.specs.Verdicts.{missing, IsVerdict}
use Rattle.da_gathering.proofs.SessionLemmas.{left_missing}
use Rattle.da_gathering.proofs.TellLemmas.{some_cells, told_cells}
use Rattle.da_gathering.proofs.talking.tell.Goals as goal

-- there are some
pub put_missing_frame-requires-clause-some : goal.put_missing_frame-requires-clause-some
put_missing_frame-requires-clause-some c =
    let here = left_missing c.session_laws.ensures.known c.session_laws.ensures.settled c.args.session.now c.requires.stands.0 c.requires.goes c.requires.stands.1 c.missing.new.room
    (c.missing.ensures.left c.requires.stands.0 c.requires.stands.1) in
    subst (λ (l : List Cell). 0 < length l) (sym c.cells.ensures.list) (some_cells c.missing.new.room.list here.some)

-- they are an answer, and spelled
pub returns-clause-missing : goal.returns-clause-missing
returns-clause-missing c = λ ms stand.
    let here = left_missing c.session_laws.ensures.known c.session_laws.ensures.settled c.args.session.now ms c.requires.goes stand c.missing.new.room (c.missing.ensures.left ms stand) in (
      c.missing.new.room,
      subst (λ (h : Roots). IsVerdict h ms (missing c.missing.new.room)) c.requires.under here,
      told_cells c.missing.new.room _ c.cells.result.now c.args.text.now.items c.put_missing_frame.new.text.items
          (ap (λ (h : Roots). h.k) c.header.view_is ∙ sym c.requires.room ∙ sym c.missing.ensures.width) c.cells.ensures.list c.requires.empty c.put_missing_frame.ensures.appended,
    )
