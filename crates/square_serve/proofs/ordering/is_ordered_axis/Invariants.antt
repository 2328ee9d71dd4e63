use Rattle.std.proofs.Common.{List}
use Rattle.namespace_id.specs.declared.shares.Share.{Share}
use Rattle.axis_roots.specs.Grids.{Extends}
use Rattle.square_serve.proofs.OrderingLemmas.{IsOrderedFrom}
use Rattle.square_serve.proofs.ordering.is_ordered_axis.Given as goal

-- the namespaces so far never fall
abbrev pub invariant-loop-pos : goal.invariant-loop-pos
invariant-loop-pos l = (grid : List Share) → Extends l.square.k l.square.shares grid → IsOrderedFrom l.square.k grid l.fn.axis l.fn.index l.pos l.last
