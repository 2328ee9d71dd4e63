use Rattle.std.proofs.Common.{◌≡◌, ℕ, ◌*◌, ◌<◌, get_or}
use Rattle.namespace_id.specs.Names.{parity}
use Rattle.namespace_id.specs.Cells.{leaf_namespace}
use Rattle.axis_roots.specs.Lines.{blank, cell_on}
use Rattle.axis_roots.specs.Grids.{share_at}
use Rattle.square_serve.proofs.leaves.gather.Given as goal

-- the namespaces and the shares so far
abbrev pub invariant-loop-i : goal.invariant-loop-i
invariant-loop-i l = record {
  names : (j : ℕ) → j < l.i → get_or l.names j parity
      ≡ leaf_namespace l.grid.k (cell_on l.fn.axis l.fn.index (get_or l.positions j 0)) (share_at (2 * l.grid.k) l.grid.shares (cell_on l.fn.axis l.fn.index (get_or l.positions j 0)));
  shares : (j : ℕ) → j < l.i → get_or l.shares j blank ≡ share_at (2 * l.grid.k) l.grid.shares (cell_on l.fn.axis l.fn.index (get_or l.positions j 0));
}
