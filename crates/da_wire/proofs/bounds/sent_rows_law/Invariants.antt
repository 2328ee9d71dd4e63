use Rattle.std.proofs.Common.{take}
use Rattle.std.specs.List.{All}
use Rattle.frame_payloads.specs.kinds.Commit.{IsRowSent}
use Rattle.da_wire.proofs.bounds.sent_rows_law.Given as goal

-- so are those before this one
abbrev pub invariant-loop-row : goal.invariant-loop-row
invariant-loop-row l = All IsRowSent (take l.row-index l.rows)
