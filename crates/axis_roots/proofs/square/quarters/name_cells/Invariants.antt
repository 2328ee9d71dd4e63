use Rattle.axis_roots.proofs.Grids.BatchLemmas.{HasNames}
use Rattle.axis_roots.proofs.square.quarters.name_cells.Given as goal

-- the namespaces so far
abbrev pub invariant-loop-pos : goal.invariant-loop-pos
invariant-loop-pos l = HasNames l.fn.k l.fn.row l.fn.col l.shares l.names l.pos
