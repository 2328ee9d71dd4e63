use Rattle.axis_roots.proofs.Grids.QuarterLemmas.{HasRows}
use Rattle.axis_roots.proofs.square.leaves.fill_leaves.Given as goal

-- the leaves over the rows so far
abbrev pub invariant-loop-row : goal.invariant-loop-row
invariant-loop-row l = HasRows l.grid.k l.grid.shares l.leaves l.row
