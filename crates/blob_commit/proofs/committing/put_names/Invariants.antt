use Rattle.std.proofs.Common.{◌≡◌, take, map}
use Rattle.namespace_id.specs.Shares.{name_in}
use Rattle.blob_commit.proofs.committing.put_names.Given as goal

-- the names so far
abbrev pub invariant-loop-i : goal.invariant-loop-i
invariant-loop-i l = take l.i l.names ≡ map name_in (take l.i l.shares)
