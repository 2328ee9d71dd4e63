use Rattle.std.proofs.Common.{take}
use Rattle.std.specs.List.{All}
use Rattle.namespace_id.specs.Digests.{IsDigest}
use Rattle.namespace_id.proofs.digests.digests_law.Given as goal

-- so are those before this one
abbrev pub invariant-loop-digest : goal.invariant-loop-digest
invariant-loop-digest l = All IsDigest (take l.digest-index l.digests)
