use Rattle.std.proofs.Common.{◌≡◌, ℕ, ◌<◌, get_or}
use Rattle.namespace_id.specs.Digests.{no_digest}
use Rattle.axis_roots.specs.Lines.{cell_on}
use Rattle.axis_roots.specs.Grids.{leaf_over}
use Rattle.square_serve.specs.Needed.{AreNeededLeaves}
use Rattle.square_serve.proofs.leaves.read_leaves.Given as goal

-- the digests so far
abbrev pub invariant-loop-pos : goal.invariant-loop-pos
invariant-loop-pos l = record {
  needed : AreNeededLeaves l.fn.grid.k l.fn.grid.shares l.leaves;
  read : (pos : ℕ) → pos < l.pos → get_or l.line pos no_digest ≡ leaf_over l.fn.grid.k l.fn.grid.shares (cell_on l.fn.axis l.fn.index pos);
}
