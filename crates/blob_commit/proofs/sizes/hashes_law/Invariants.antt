use Rattle.std.proofs.Common.{take}
use Rattle.std.specs.List.{All}
use Rattle.namespace_id.specs.Bytes.{IsString}
use Rattle.blob_commit.proofs.sizes.hashes_law.Given as goal

-- so have those before this one
abbrev pub invariant-loop-hash : goal.invariant-loop-hash
invariant-loop-hash l = All (IsString 32) (take l.hash-index l.hashes)
