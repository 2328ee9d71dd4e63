use Rattle.std.proofs.Common.{◌≡◌, ◌*◌, take, length}
use Rattle.nmt_tree.specs.Levels.{pairs}
use Rattle.nmt_tree.proofs.levels.put_pairs.Given as goal

-- the nodes so far, eight by eight
abbrev pub invariant-eights : goal.invariant-eights
invariant-eights l = (length l.above ≡ length l.fn.above) × (take (8 * l.eight) l.above ≡ pairs (take (2 * (8 * l.eight)) l.level))

-- the nodes so far
abbrev pub invariant-rest : goal.invariant-rest
invariant-rest l = (length l.above ≡ length l.fn.above) × (take l.i l.above ≡ pairs (take (2 * l.i) l.level))
