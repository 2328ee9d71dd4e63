use Rattle.square_serve.specs.Needed.{AreNeededLeaves}
use Rattle.square_serve.proofs.leaves.put_digests.Given as goal

-- leaves that were hashed
abbrev pub invariant-loop-i : goal.invariant-loop-i
invariant-loop-i l = AreNeededLeaves l.grid.k l.grid.shares l.leaves
