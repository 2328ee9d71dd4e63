use Rattle.std.proofs.Common.{◌≡◌, drop}
use Rattle.share_split.specs.Walks.{blobs_from, blobs_joined}
use Rattle.share_split.specs.Steps.{behind_blobs}
use Rattle.share_split.proofs.joining.join_blobs.Given as goal

-- the blobs so far and those of the shares that are left are all
abbrev pub invariant-loop-i : goal.invariant-loop-i
invariant-loop-i l = behind_blobs l.blobs.items (blobs_from l.i l.open (drop l.i l.shares)) ≡ blobs_joined l.shares
