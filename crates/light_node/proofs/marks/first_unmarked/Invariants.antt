use Rattle.std.proofs.Common.{length, ◌-◌, ◌≤◌}
use Rattle.light_node.specs.Nodes.{AreMarkedBefore}
use Rattle.light_node.proofs.marks.first_unmarked.Given as goal

-- all cells so far are marked
abbrev pub invariant-loop-next : goal.invariant-loop-next
invariant-loop-next l = record {
  within : l.next ≤ length l.cells;
  before : AreMarkedBefore l.k l.shown l.cells l.next;
}

abbrev pub decreases-loop-next : goal.decreases-loop-next
decreases-loop-next l = length l.cells - l.next
