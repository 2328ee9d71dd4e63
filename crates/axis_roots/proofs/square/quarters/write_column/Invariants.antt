use Rattle.std.proofs.Common.{◌≡◌, ◌≢◌, ℕ, ◌<◌, get_or}
use Rattle.namespace_id.specs.declared.cells.Cell.{Cell}
use Rattle.namespace_id.specs.Cells.{cell_in}
use Rattle.axis_roots.specs.Lines.{blank}
use Rattle.axis_roots.specs.Grids.{share_at}
use Rattle.axis_roots.proofs.square.quarters.write_column.Given as goal

-- the shares so far, and the cells of other columns
abbrev pub invariant-loop-row : goal.invariant-loop-row
invariant-loop-row l = record {
  written : (r : ℕ) → r < l.row → share_at l.fn.k l.quarter (cell_in r l.fn.col) ≡ get_or l.line r blank;
  others : (cell : Cell) → cell.col < l.fn.k → cell.col ≢ l.fn.col → share_at l.fn.k l.quarter cell ≡ share_at l.fn.k l.fn.quarter cell;
}
