use Rattle.std.proofs.Common.{◌≡◌, take}
use Rattle.befp_verify.specs.Compacting.{branches_of}
use Rattle.befp_verify.specs.Placed.{placed_branches}
use Rattle.befp_verify.proofs.compacting.placed_messages.Given as goal

-- those so far
abbrev pub invariant-loop-i : goal.invariant-loop-i
invariant-loop-i l = placed_branches l.made.items ≡ branches_of l.k l.axis (take l.i l.cells)
