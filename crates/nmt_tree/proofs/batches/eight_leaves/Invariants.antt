use Rattle.std.proofs.Common.{◌≡◌, take, length}
use Rattle.nmt_tree.specs.Levels.{leaf_digests}
use Rattle.nmt_tree.proofs.batches.eight_leaves.Given as goal

-- the leaves so far
abbrev pub invariant-leaves : goal.invariant-leaves
invariant-leaves l = (length l.leaves ≡ 8) × (take l.j l.leaves ≡ leaf_digests (take l.j l.names) (take l.j l.shares))
