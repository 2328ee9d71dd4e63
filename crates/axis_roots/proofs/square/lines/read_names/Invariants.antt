use Rattle.std.proofs.Common.{◌≡◌, ℕ, ◌*◌, ◌<◌, get_or}
use Rattle.namespace_id.specs.Names.{parity}
use Rattle.namespace_id.specs.Cells.{leaf_namespace}
use Rattle.axis_roots.specs.Lines.{cell_on}
use Rattle.axis_roots.specs.Grids.{share_at}
use Rattle.axis_roots.proofs.square.lines.read_names.Given as goal

-- the namespaces so far
abbrev pub invariant-loop-pos : goal.invariant-loop-pos
invariant-loop-pos l =
    (pos : ℕ) → pos < l.pos → get_or l.line pos parity
    ≡ leaf_namespace l.grid.k (cell_on l.fn.axis l.fn.index pos) (share_at (2 * l.grid.k) l.grid.shares (cell_on l.fn.axis l.fn.index pos))
