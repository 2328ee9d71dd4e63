use Rattle.std.proofs.Common.{◌≡◌, ◌++◌, List, map}
use Rattle.namespace_id.specs.declared.shares.Share.{Share}
use Rattle.axis_roots.specs.Grids.{Extends, grid_roots}
use Rattle.square_serve.specs.Answers.{wanted_rows}
use Rattle.square_serve.specs.Rows.{AreHeldRows}
use Rattle.square_serve.specs.Serving.{row_entry}
use Rattle.square_serve.proofs.Serving.EntryLemmas.{entries_from}
use Rattle.square_serve.proofs.held_rows.entries_of.Given as goal

-- the trees are those of the square, and the entries so far and those of the rows that are left are all
abbrev pub invariant-loop-row : goal.invariant-loop-row
invariant-loop-row l = record {
  held : AreHeldRows l.square l.names l.trees;
  so_far : (grid : List Share) → Extends l.square.k l.square.shares grid
      → l.entries.items ++ entries_from (grid_roots l.square.k grid) l.square.k grid l.namespace l.row
      ≡ map (row_entry l.square.k grid l.namespace) (wanted_rows (grid_roots l.square.k grid) l.namespace);
}
