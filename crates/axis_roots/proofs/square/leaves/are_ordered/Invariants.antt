use Rattle.std.proofs.Common.{◌≡◌, ◌-◌, drop, map}
use Rattle.namespace_id.specs.Digests.{least_of}
use Rattle.nmt_tree.specs.Roots.{is_ordered}
use Rattle.axis_roots.proofs.square.leaves.are_ordered.Given as goal

-- the namespaces from the one before on decide
abbrev pub invariant-loop-i : goal.invariant-loop-i
invariant-loop-i l = is_ordered (drop (l.i - 1) (map least_of l.digests)) ≡ is_ordered (map least_of l.digests)
