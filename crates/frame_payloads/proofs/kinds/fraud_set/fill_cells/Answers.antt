use Rattle.std.proofs.Common.{arith}
use Rattle.frame_payloads.specs.kinds.Fraud.{set_cell_at}
use Rattle.frame_payloads.proofs.Fields.Many.{gives_some, gives_value, kept_more, next_some}
use Rattle.frame_payloads.proofs.kinds.fraud_set.fill_cells.Goals as goal

-- the next cell can be read
pub unwrap-cell-requires : goal.unwrap-cell-requires
unwrap-cell-requires c =
    gives_some _ c.set_cell_at.result (set_cell_at c.args.axis c.args.index c.loop.rest.now) c.set_cell_at.ensures
    (next_some (set_cell_at c.args.axis c.args.index) c.args.count c.loop.counter c.loop.rest.now c.loop.list.items _ c.loop-test.true c.requires.cells c.loop.invariant.all)

-- it is kept
pub loop-preserved : goal.loop-preserved
loop-preserved c = record {
  all = rw c.add.ensures.items
      (kept_more (set_cell_at c.args.axis c.args.index) c.args.count c.loop.counter c.loop.rest.now c.loop.list.items c.unwrap-cell.result.0 c.unwrap-cell.result.1.now _ c.loop-test.true
      (gives_value _ c.set_cell_at.result (set_cell_at c.args.axis c.args.index c.loop.rest.now) c.unwrap-cell.result c.set_cell_at.ensures c.unwrap-cell.ensures) c.loop.invariant.all);
  len = omega (arith, c.add.ensures.len, c.loop.invariant.len);
  capacity = omega (arith, c.add.ensures.capacity, c.loop.invariant.capacity);
}
