use Rattle.std.proofs.Common.{◌∙◌, map, List, sym, ap, subst, arith}
use Rattle.std.proofs.lemmas.List.{get_or-map, length-map}
use Rattle.std.proofs.lemmas.List.Elements.{All-more}
use Rattle.namespace_id.proofs.ElementLemmas.{all_passed}
use Rattle.axis_roots.specs.declared.message.messages.Message.{Message}
use Rattle.axis_roots.specs.Messages.{IsMessage}
use Rattle.axis_roots.specs.Proved.{kept_message}
use Rattle.frame_payloads.proofs.bounds.proved_law.Goals as goal

pub loop-cell-preserved : goal.loop-cell-preserved
loop-cell-preserved c =
    let messages : List Message = map kept_message c.args.cells.now in
    let message : Message = kept_message c.cell-item.result in
    let here = get_or-map kept_message c.args.cells.now c.loop-cell.cell-index c.cell-item.result message c.loop-cell-test.true in
    All-more IsMessage messages c.loop-cell.cell-index message (omega (arith, length-map c.args.cells.now kept_message)) c.loop-cell.invariant
    (subst IsMessage (c.message.ensures ∙ ap kept_message c.cell-item.is ∙ sym here) c.message_law.ensures)

pub returns : goal.returns
returns c = all_passed IsMessage (map kept_message c.args.cells.now) c.loop-cell.cell-index (omega (arith, length-map c.args.cells.now kept_message)) c.loop-cell.invariant
