use Rattle.std.proofs.Common.{◌≡◌, ◌⊎◌, ℕ, ◌*◌, ◌<◌, ◌≤◌, IsTrue}
use Rattle.namespace_id.specs.declared.cells.Cell.{Cell}
use Rattle.namespace_id.specs.Cells.{is_in_square}
use Rattle.leopard_code.specs.Codewords.{IsCodeword}
use Rattle.axis_roots.specs.Messages.{position, index}
use Rattle.axis_roots.specs.Grids.{share_at, axis_shares}
use Rattle.axis_roots.proofs.square.extending.extend_axes.Given as goal

-- the codewords so far, and the cells that stay
abbrev pub invariant-loop-index : goal.invariant-loop-index
invariant-loop-index l = record {
  room : l.room ≡ l.fn.room;
  k : l.grid.k ≡ l.fn.grid.k;
  codewords : (i : ℕ) → i < l.index → IsCodeword l.fn.grid.k (axis_shares l.fn.grid.k l.grid.shares l.fn.axis i);
  kept : (cell : Cell) → IsTrue (is_in_square l.fn.grid.k cell) → (l.index ≤ index l.fn.axis cell) ⊎ (position l.fn.axis cell < l.fn.grid.k)
      → share_at (2 * l.fn.grid.k) l.grid.shares cell ≡ share_at (2 * l.fn.grid.k) l.fn.grid.shares cell;
}
