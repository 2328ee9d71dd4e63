use Rattle.std.proofs.Common.{◌≡◌, take}
use Rattle.befp_verify.specs.Compacting.{bare_all}
use Rattle.befp_verify.proofs.compacting.bare_messages.Given as goal

-- those so far
abbrev pub invariant-loop-message : goal.invariant-loop-message
invariant-loop-message l = l.made.items ≡ bare_all l.axis (take l.message-index l.cells)
