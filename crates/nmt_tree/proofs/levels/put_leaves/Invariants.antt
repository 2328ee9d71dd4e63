use Rattle.std.proofs.Common.{◌≡◌, ◌*◌, take, length}
use Rattle.nmt_tree.specs.Levels.{leaf_digests}
use Rattle.nmt_tree.proofs.levels.put_leaves.Given as goal

-- the leaves so far, eight by eight
abbrev pub invariant-eights : goal.invariant-eights
invariant-eights l = (length l.leaves ≡ length l.fn.leaves) × (take (8 * l.eight) l.leaves ≡ leaf_digests (take (8 * l.eight) l.names) (take (8 * l.eight) l.shares))

-- the leaves so far
abbrev pub invariant-rest : goal.invariant-rest
invariant-rest l = (length l.leaves ≡ length l.fn.leaves) × (take l.i l.leaves ≡ leaf_digests (take l.i l.names) (take l.i l.shares))
