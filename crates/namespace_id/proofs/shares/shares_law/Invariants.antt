use Rattle.std.proofs.Common.{take}
use Rattle.std.specs.List.{All}
use Rattle.namespace_id.specs.Shares.{IsShare}
use Rattle.namespace_id.proofs.shares.shares_law.Given as goal

-- so are those before this one
abbrev pub invariant-loop-share : goal.invariant-loop-share
invariant-loop-share l = All IsShare (take l.share-index l.shares)
