use Rattle.std.proofs.Common.{sym, inr, ◌∙◌}
use Rattle.namespace_id.specs.declared.cells.Axis.TheVariants.{Col}
use Rattle.repair_queue.proofs.judging.is_apart.Goals as goal

-- the sample along the column shows another share
pub returns-else-is_other-clause-apart : goal.returns-else-is_other-clause-apart
returns-else-is_other-clause-apart c = λ t. inr (sym c.is_on_decided.ensures ∙ c.if-is_on_decided.false, (Col, c.is_other-else-is_other.ensures.other t))
