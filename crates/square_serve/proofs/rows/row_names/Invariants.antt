use Rattle.std.proofs.Common.{◌≡◌, List, map}
use Rattle.namespace_id.specs.declared.shares.Share.{Share}
use Rattle.namespace_id.specs.Lists.{ascending}
use Rattle.axis_roots.specs.Grids.{Extends}
use Rattle.square_serve.specs.RowNames.{names_of}
use Rattle.square_serve.proofs.rows.row_names.Given as goal

-- those of the rows so far
abbrev pub invariant-loop-row : goal.invariant-loop-row
invariant-loop-row l =
    (grid : List Share) → Extends l.square.k l.square.shares grid
    → l.names.items ≡ map (names_of l.square.k grid) (ascending 0 l.row)
