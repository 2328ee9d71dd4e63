use Rattle.std.proofs.Common.{List, Some, inr, subst}
use Rattle.std.specs.String.{string_bytes}
use Rattle.namespace_id.specs.declared.cells.Cell.{Cell}
use Rattle.data_header.specs.Headers.{Roots}
use Rattle.da_watching.specs.Watchers.{watching}
use Rattle.da_conversing.specs.Tellings.{TellsOver}
use Rattle.da_conversing.proofs.watching.answer_picked.Goals as goal

-- the talk is that of a light node under the header that drew the cells
pub returns-clause-course : goal.returns-clause-course
returns-clause-course g c =
    let name = string_bytes c.args.to.name in
    inr (subst (λ (h : Roots). TellsOver g.I.Inputs g.O.Sink (watching h c.args.drawn.cells.now) Some c.args.to.file name c.args.inputs.now c.talk_over.new.inputs c.args.out.now c.talk_over.new.out c.talk_over.result)
    c.in-Ok-new.ensures.header
    (subst (λ (plan : List Cell). TellsOver g.I.Inputs g.O.Sink (watching c.in-Ok-new.watcher.header plan) Some c.args.to.file name c.args.inputs.now c.talk_over.new.inputs c.args.out.now c.talk_over.new.out c.talk_over.result)
    c.in-Ok-new.ensures.plan c.talk_over.ensures.talk))
