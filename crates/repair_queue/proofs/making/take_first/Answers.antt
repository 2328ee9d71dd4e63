use Rattle.std.proofs.Common.{◌∙◌, sym}
use Rattle.namespace_id.specs.declared.cells.Axis.TheVariants.{Row, Col}
use Rattle.repair_queue.proofs.making.take_first.Goals as goal

-- the sample along the row
pub returns-then-is_some-clause-kept : goal.returns-then-is_some-clause-kept
returns-then-is_some-clause-kept c = (Row, sym c.take_out.ensures.value ∙ c.unwrap.ensures, c.take_out.ensures.emptied)

-- or along the column
pub returns-clause-kept : goal.returns-clause-kept
returns-clause-kept c = (Col, sym c.take_out-2.ensures.value ∙ c.unwrap-2.ensures, c.take_out-2.ensures.emptied)
