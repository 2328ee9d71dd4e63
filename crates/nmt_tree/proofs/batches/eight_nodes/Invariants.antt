use Rattle.std.proofs.Common.{◌≡◌, ◌*◌, take, length}
use Rattle.nmt_tree.specs.Levels.{pairs}
use Rattle.nmt_tree.proofs.batches.eight_nodes.Given as goal

-- the nodes so far
abbrev pub invariant-nodes : goal.invariant-nodes
invariant-nodes l = (length l.nodes ≡ 8) × (take l.j l.nodes ≡ pairs (take (2 * l.j) l.level))
