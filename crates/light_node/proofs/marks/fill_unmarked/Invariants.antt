use Rattle.namespace_id.proofs.BelowLemmas.{IsFilling}
use Rattle.light_node.specs.Nodes.{IsUnmarkedIn}
use Rattle.light_node.proofs.marks.fill_unmarked.Given as goal

-- the unmarked cells so far
abbrev pub invariant-loop-number : goal.invariant-loop-number
invariant-loop-number l = IsFilling l.k (IsUnmarkedIn l.k l.shown l.cells.keys) l.number l.room
