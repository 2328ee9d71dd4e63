use Rattle.std.proofs.Common.{◌≡◌, ◌≤◌, length, take}
use Rattle.std.specs.Vec.{vec_capacity}
use Rattle.da_net.proofs.copies.copy_nodes.Given as goal

-- the first digests are copied, and there is capacity for all
abbrev pub invariant-loop-i : goal.invariant-loop-i
invariant-loop-i l = record {
  copied : l.copy.items ≡ take l.i l.nodes;
  room : length l.nodes ≤ vec_capacity l.copy;
}
