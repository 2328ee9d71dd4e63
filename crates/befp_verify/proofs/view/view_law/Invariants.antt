use Rattle.std.proofs.Common.{take}
use Rattle.std.specs.List.{All}
use Rattle.axis_roots.specs.Messages.{IsMessage}
use Rattle.befp_verify.proofs.view.view_law.Given as goal

-- those before this one are samples
abbrev pub invariant-loop-message : goal.invariant-loop-message
invariant-loop-message l = All IsMessage (take l.message-index l.claim.cells)
