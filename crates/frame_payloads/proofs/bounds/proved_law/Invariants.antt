use Rattle.std.proofs.Common.{map, take}
use Rattle.std.specs.List.{All}
use Rattle.axis_roots.specs.Messages.{IsMessage}
use Rattle.axis_roots.specs.Proved.{kept_message}
use Rattle.frame_payloads.proofs.bounds.proved_law.Given as goal

-- so are those before this one
abbrev pub invariant-loop-cell : goal.invariant-loop-cell
invariant-loop-cell l = All IsMessage (take l.cell-index (map kept_message l.cells))
