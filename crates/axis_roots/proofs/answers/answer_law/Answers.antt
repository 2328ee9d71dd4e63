use Rattle.std.proofs.Common.{◌∙◌, length, ap, subst, arith, List, get_or}
use Rattle.std.proofs.lemmas.List.Elements.{All-more}
use Rattle.namespace_id.proofs.ElementLemmas.{all_passed}
use Rattle.axis_roots.specs.declared.answers.NsEntry.{NsEntry}
use Rattle.axis_roots.specs.Answers.{IsEntry}
use Rattle.axis_roots.proofs.answers.answer_law.Goals as goal

pub loop-entry-preserved : goal.loop-entry-preserved
loop-entry-preserved c =
    All-more IsEntry c.args.answer.now c.loop-entry.entry-index c.entry-item.result
    (omega (arith, ap length c.answer.view_is, ap length c.deref-entry-items.ensures.value)) c.loop-entry.invariant
    (subst IsEntry (c.entry-item.is
    ∙ ap (λ (l : List NsEntry). get_or l c.loop-entry.entry-index c.entry-item.result) (c.deref-entry-items.ensures.value ∙ c.answer.view_is)) c.entry_law.ensures)

pub returns : goal.returns
returns c =
    all_passed IsEntry c.args.answer.now c.loop-entry.entry-index
    (omega (arith, ap length c.answer.view_is, ap length c.deref-entry-items.ensures.value)) c.loop-entry.invariant
