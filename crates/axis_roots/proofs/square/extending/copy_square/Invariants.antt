use Rattle.std.proofs.Common.{◌≡◌, ◌+◌, ◌*◌, ◌<◌}
use Rattle.namespace_id.specs.declared.cells.Cell.{Cell}
use Rattle.axis_roots.specs.Grids.{share_at}
use Rattle.axis_roots.proofs.square.extending.copy_square.Given as goal

-- the cells so far, by their numbers in the square
abbrev pub invariant-loop-number : goal.invariant-loop-number
invariant-loop-number l = record {
  k : l.grid.k ≡ l.fn.grid.k;
  copied : (cell : Cell) → cell.row < l.fn.grid.k → cell.col < l.fn.grid.k → cell.row * l.fn.grid.k + cell.col < l.number
      → share_at (2 * l.fn.grid.k) l.grid.shares cell ≡ share_at l.fn.grid.k l.square.shares cell;
}
