use Rattle.std.proofs.Common.{take}
use Rattle.std.specs.List.{All}
use Rattle.share_split.specs.Blobs.{IsNamed}
use Rattle.share_split.proofs.blobs.blobs_law.Given as goal

-- so are those before this one
abbrev pub invariant-loop-blob : goal.invariant-loop-blob
invariant-loop-blob l = All IsNamed (take l.blob-index l.blobs)
