use Rattle.std.proofs.Common.{◌≡◌, ◌<◌, ℕ, true, map}
use Rattle.namespace_id.specs.Lists.{ascending}
use Rattle.axis_roots.specs.Grids.{is_ordered_axis}
use Rattle.axis_roots.specs.Trees.{axis_stored}
use Rattle.axis_roots.proofs.square.trees.trees_of.Given as goal

-- the axes so far are ordered, and these are their trees
abbrev pub invariant-loop-index : goal.invariant-loop-index
invariant-loop-index l = record {
  ordered : (i : ℕ) → i < l.index → is_ordered_axis l.grid.k l.grid.shares l.fn.axis i ≡ true;
  stored : l.trees.items ≡ map (axis_stored l.grid.k l.grid.shares l.fn.axis) (ascending 0 l.index);
}
