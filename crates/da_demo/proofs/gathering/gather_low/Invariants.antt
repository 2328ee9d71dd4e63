use Rattle.std.proofs.Common.{◌≡◌, ◌+◌, ◌≤◌, [], map}
use Rattle.namespace_id.specs.declared.cells.Axis.TheVariants.{Col}
use Rattle.namespace_id.specs.Lists.{ascending}
use Rattle.axis_roots.specs.Trees.{message_at}
use Rattle.da_demo.specs.Sessions.{low_cell}
use Rattle.da_demo.specs.Gathered.{IsGathered}
use Rattle.da_demo.proofs.gathering.gather_low.Given as goal

-- the samples so far are taken in
abbrev pub invariant-loop-col : goal.invariant-loop-col
invariant-loop-col l = record {
  gathered : IsGathered l.header [] l.fn.gathered
      → IsGathered l.header (map (λ col. message_at l.grid.k l.grid.shares (low_cell l.grid.k col) Col)
      (ascending 0 l.col)) l.gathered;
  under : l.gathered.session.header ≡ l.header;
  few : l.gathered.proved + l.gathered.lies ≤ l.col;
}
