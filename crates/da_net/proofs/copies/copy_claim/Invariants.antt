use Rattle.std.proofs.Common.{◌≡◌, ◌≤◌, length, take}
use Rattle.std.specs.Vec.{vec_capacity}
use Rattle.da_net.proofs.copies.copy_claim.Given as goal

-- the first samples are copied, and there is capacity for all
abbrev pub invariant-loop-i : goal.invariant-loop-i
invariant-loop-i l = record {
  copied : l.cells.items ≡ take l.i l.claim.cells;
  room : length l.claim.cells ≤ vec_capacity l.cells;
}
