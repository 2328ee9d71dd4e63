use Rattle.std.proofs.Common.{◌≡◌, ◌<◌, ℕ, List, true}
use Rattle.namespace_id.specs.declared.shares.Share.{Share}
use Rattle.axis_roots.specs.Grids.{Extends, is_ordered_axis}
use Rattle.square_serve.proofs.ordering.are_ordered_along.Given as goal

-- the axes so far are ordered
abbrev pub invariant-loop-index : goal.invariant-loop-index
invariant-loop-index l = (grid : List Share) → Extends l.square.k l.square.shares grid → (i : ℕ) → i < l.index → is_ordered_axis l.square.k grid l.axis i ≡ true
