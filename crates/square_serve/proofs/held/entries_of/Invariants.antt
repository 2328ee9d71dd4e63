use Rattle.std.proofs.Common.{◌≡◌, ◌++◌, map}
use Rattle.square_serve.specs.Answers.{wanted_rows}
use Rattle.square_serve.specs.Needed.{AreNeeded}
use Rattle.square_serve.specs.Serving.{row_entry}
use Rattle.square_serve.proofs.Serving.EntryLemmas.{entries_from}
use Rattle.square_serve.proofs.held.entries_of.Given as goal
use Rattle.axis_roots.specs.Grids.{grid_roots}

-- the trees are those of the grid, and the entries so far and those of the rows that are left are all
abbrev pub invariant-loop-row : goal.invariant-loop-row
invariant-loop-row l = record {
  needed : AreNeeded l.grid.k l.grid.shares l.trees;
  so_far : l.entries.items ++ entries_from (grid_roots l.grid.k l.grid.shares) l.grid.k l.grid.shares l.namespace l.row
      ≡ map (row_entry l.grid.k l.grid.shares l.namespace) (wanted_rows (grid_roots l.grid.k l.grid.shares) l.namespace);
}
