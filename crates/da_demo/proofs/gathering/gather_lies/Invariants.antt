use Rattle.std.proofs.Common.{◌≡◌, ◌+◌, ◌≤◌, [], map}
use Rattle.namespace_id.specs.declared.cells.Axis.TheVariants.{Row}
use Rattle.namespace_id.specs.Lists.{ascending}
use Rattle.axis_roots.specs.Trees.{message_at}
use Rattle.da_demo.specs.Sessions.{spoiled_message, lie_cell}
use Rattle.da_demo.specs.Gathered.{IsGathered}
use Rattle.da_demo.proofs.gathering.gather_lies.Given as goal

-- the lies so far are taken in
abbrev pub invariant-loop-i : goal.invariant-loop-i
invariant-loop-i l = record {
  gathered : IsGathered l.header [] l.fn.gathered
      → IsGathered l.header (map (λ i. spoiled_message (message_at l.grid.k l.grid.shares (lie_cell i) Row))
      (ascending 0 l.i)) l.gathered;
  under : l.gathered.session.header ≡ l.header;
  few : l.gathered.proved + l.gathered.lies ≤ l.i;
}
