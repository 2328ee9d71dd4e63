use Rattle.std.proofs.Common.{◌≡◌, ℕ, ◌<◌, get_or}
use Rattle.namespace_id.specs.Cells.{cell_in}
use Rattle.axis_roots.specs.Lines.{blank}
use Rattle.axis_roots.specs.Grids.{share_at}
use Rattle.axis_roots.proofs.square.quarters.read_column.Given as goal

-- the shares so far
abbrev pub invariant-loop-row : goal.invariant-loop-row
invariant-loop-row l = (r : ℕ) → r < l.row → get_or l.line r blank ≡ share_at l.square.k l.square.shares (cell_in r l.fn.col)
