use Rattle.std.proofs.Common.{◌≡◌, ◌*◌, ◌<◌, ℕ, length, get_or}
use Rattle.namespace_id.specs.Digests.{no_digest}
use Rattle.axis_roots.specs.Grids.{axis_root}
use Rattle.square_serve.specs.Needed.{AreNeededLeaves, AreNeededTrees}
use Rattle.square_serve.proofs.needed.put_roots.Given as goal

-- the roots of the axes so far
abbrev pub invariant-loop-index : goal.invariant-loop-index
invariant-loop-index l = record {
  leaves : AreNeededLeaves l.grid.k l.grid.shares l.leaves;
  trees : AreNeededTrees l.grid.k l.grid.shares l.axis l.trees;
  line : length l.line ≡ 2 * l.grid.k;
  count : length l.roots ≡ 2 * l.grid.k;
  roots : (i : ℕ) → i < l.index → get_or l.roots i no_digest ≡ axis_root l.grid.k l.grid.shares l.axis i;
}
