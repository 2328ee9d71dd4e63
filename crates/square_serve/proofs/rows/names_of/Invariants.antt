use Rattle.std.proofs.Common.{List}
use Rattle.namespace_id.specs.declared.cells.Axis.TheVariants.{Row}
use Rattle.namespace_id.specs.declared.shares.Share.{Share}
use Rattle.axis_roots.specs.Grids.{Extends, axis_names}
use Rattle.square_serve.proofs.WantedLemmas.{IsLastTo}
use Rattle.square_serve.proofs.rows.names_of.Given as goal

-- the last so far that isn't PARITY
abbrev pub invariant-loop-col : goal.invariant-loop-col
invariant-loop-col l = (grid : List Share) → Extends l.square.k l.square.shares grid → IsLastTo (axis_names l.square.k grid Row l.row) l.col l.greatest
