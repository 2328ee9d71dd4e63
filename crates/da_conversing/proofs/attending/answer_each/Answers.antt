use Rattle.std.proofs.Common.{◌∙◌, List, subst}
use Rattle.std.specs.String.{string_bytes}
use Rattle.namespace_id.specs.declared.namespaces.Namespace.{Namespace}
use Rattle.da_conversing.specs.Attends.{AttendsOver}
use Rattle.da_conversing.proofs.attending.answer_each.Goals as goal

-- the namespaces are those that are asked for, each once
pub returns-clause-course : goal.returns-clause-course
returns-clause-course g c =
    subst (λ (names : List Namespace). AttendsOver g.I.Inputs g.O.Sink c.args.inputs.now c.answer_names.new.inputs c.args.out.now c.answer_names.new.out names (string_bytes c.args.name) c.answer_names.result)
    (c.deref.ensures.value ∙ c.in-Ok.ensures) c.answer_names.ensures.course
