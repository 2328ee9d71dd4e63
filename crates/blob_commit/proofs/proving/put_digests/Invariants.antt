use Rattle.std.proofs.Common.{◌≡◌, ◌++◌, take}
use Rattle.blob_commit.specs.Commitments.{leaf_hashes}
use Rattle.blob_commit.proofs.proving.put_digests.Given as goal

-- the hashes so far
abbrev pub invariant-loop-digest : goal.invariant-loop-digest
invariant-loop-digest l = l.hashes ≡ l.fn.hashes ++ leaf_hashes (take l.digest-index l.digests)
