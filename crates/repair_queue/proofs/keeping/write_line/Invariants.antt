use Rattle.std.proofs.Common.{◌≡◌, ◌≢◌, ℕ, ◌*◌, ◌<◌, ◌≤◌, get_or, IsTrue}
use Rattle.namespace_id.specs.declared.cells.Cell.{Cell}
use Rattle.namespace_id.specs.Cells.{is_in_square}
use Rattle.axis_roots.specs.Messages.{index}
use Rattle.axis_roots.specs.Lines.{blank, cell_on}
use Rattle.axis_roots.specs.Grids.{share_at}
use Rattle.repair_queue.proofs.keeping.write_line.Given as goal

-- the shares so far, those behind them as they were, and every cell of another axis
abbrev pub invariant-loop-pos : goal.invariant-loop-pos
invariant-loop-pos l = record {
  k : l.grid.k ≡ l.fn.grid.k;
  written : (pos : ℕ) → pos < l.pos → share_at (2 * l.fn.grid.k) l.grid.shares (cell_on l.axis l.index pos) ≡ get_or l.line pos blank;
  later : (pos : ℕ) → l.pos ≤ pos → pos < 2 * l.fn.grid.k
      → share_at (2 * l.fn.grid.k) l.grid.shares (cell_on l.axis l.index pos) ≡ share_at (2 * l.fn.grid.k) l.fn.grid.shares (cell_on l.axis l.index pos);
  others : (cell : Cell) → IsTrue (is_in_square l.fn.grid.k cell) → index l.axis cell ≢ l.index
      → share_at (2 * l.fn.grid.k) l.grid.shares cell ≡ share_at (2 * l.fn.grid.k) l.fn.grid.shares cell;
}
