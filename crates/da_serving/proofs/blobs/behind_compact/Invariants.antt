use Rattle.std.proofs.Common.{◌≡◌, length}
use Rattle.da_serving.specs.Blobs.{behind_compact}
use Rattle.da_serving.proofs.blobs.behind_compact.Given as goal

-- the shares before are compact
abbrev pub invariant-loop-share : goal.invariant-loop-share
invariant-loop-share l = behind_compact l.shares ≡ behind_compact l.rest

-- how many shares are left
abbrev pub decreases-loop-share : goal.decreases-loop-share
decreases-loop-share l = length l.rest
