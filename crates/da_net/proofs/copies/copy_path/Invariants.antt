use Rattle.std.proofs.Common.{◌≡◌, take}
use Rattle.da_net.proofs.copies.copy_path.Given as goal

-- the first nodes are copied
abbrev pub invariant-loop-i : goal.invariant-loop-i
invariant-loop-i l = l.copy ≡ take l.i l.nodes
