use Rattle.std.proofs.Common.{◌≡◌, List}
use Rattle.namespace_id.specs.declared.shares.Share.{Share}
use Rattle.axis_roots.specs.Grids.{Extends}
use Rattle.axis_roots.proofs.Grids.QuarterLemmas.{HasRows}
use Rattle.axis_roots.proofs.square.quarters.fill_rows.Given as goal

-- the leaves over the rows so far, in each extension of the square
abbrev pub invariant-loop-row : goal.invariant-loop-row
invariant-loop-row l = record {
  room : l.room ≡ l.fn.room;
  leaves : (grid : List Share) → Extends l.square.k l.square.shares grid → HasRows l.square.k grid l.leaves l.row;
}
