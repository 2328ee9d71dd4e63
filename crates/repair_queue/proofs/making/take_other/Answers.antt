use Rattle.std.proofs.Common.{◌∙◌, sym}
use Rattle.namespace_id.specs.declared.cells.Axis.TheVariants.{Row, Col}
use Rattle.repair_queue.specs.Pools.{slot_in}
use Rattle.repair_queue.proofs.Lines.MakeLemmas.{other_col}
use Rattle.repair_queue.proofs.making.take_other.Goals as goal

-- the sample along the row
pub returns-then-is_other-clause-kept : goal.returns-then-is_other-clause-kept
returns-then-is_other-clause-kept c = (Row, sym c.take_out.ensures.value ∙ c.unwrap.ensures)

-- or along the column
pub returns-clause-kept : goal.returns-clause-kept
returns-clause-kept c = (Col, sym c.take_out-2.ensures.value ∙ c.unwrap-2.ensures)

pub returns-clause-share : goal.returns-clause-share
returns-clause-share c =
    other_col (slot_in c.args.pool.now) c.args.cell c.args.share.now c.unwrap-2.result c.requires.other (c.is_other.ensures.same c.if-is_other.false)
    (sym c.take_out-2.ensures.value ∙ c.unwrap-2.ensures)
