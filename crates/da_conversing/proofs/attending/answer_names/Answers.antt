use Rattle.std.proofs.Common.{List, Some, inr, subst}
use Rattle.std.specs.String.{string_bytes}
use Rattle.namespace_id.specs.declared.namespaces.Namespace.{Namespace}
use Rattle.da_attending.specs.Attended.{attending}
use Rattle.da_conversing.specs.Tellings.{TellsOver}
use Rattle.da_conversing.proofs.attending.answer_names.Goals as goal

-- the talk is that of an attender of these namespaces
pub returns-clause-course : goal.returns-clause-course
returns-clause-course g c =
    inr (subst (λ (names : List Namespace). TellsOver g.I.Inputs g.O.Sink (attending names) Some 1 (string_bytes c.args.name) c.args.inputs.now c.talk_over.new.inputs c.args.out.now c.talk_over.new.out c.talk_over.result)
    c.in-Ok-new.ensures.names c.talk_over.ensures.talk)
