use Rattle.std.proofs.Common.{◌≡◌, take}
use Rattle.befp_verify.proofs.compacting.same_messages.Given as goal

-- those so far
abbrev pub invariant-loop-message : goal.invariant-loop-message
invariant-loop-message l = l.made.items ≡ take l.message-index l.cells
