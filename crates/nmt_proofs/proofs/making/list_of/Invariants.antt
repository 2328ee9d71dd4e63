use Rattle.std.proofs.Common.{◌≡◌, take}
use Rattle.nmt_proofs.proofs.making.list_of.Given as goal

-- the nodes so far
abbrev pub invariant-loop-node : goal.invariant-loop-node
invariant-loop-node l = l.list ≡ take l.node-index l.nodes
