use Rattle.std.proofs.Common.{take}
use Rattle.std.specs.List.{All}
use Rattle.blob_commit.specs.Proofs.{IsRow}
use Rattle.blob_commit.proofs.sizes.rows_law.Given as goal

-- so have those before this one
abbrev pub invariant-loop-row : goal.invariant-loop-row
invariant-loop-row l = All IsRow (take l.row-index l.rows)
