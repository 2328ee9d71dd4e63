use Rattle.std.proofs.Common.{length}
use Rattle.da_serving.proofs.FindLemmas.{IsWalked}
use Rattle.da_serving.proofs.find.found_lines.Given as goal

-- the lines of the blobs before were appended
abbrev pub invariant-loop-share : goal.invariant-loop-share
invariant-loop-share l = IsWalked l.commitment l.first l.shares l.text.items l.start l.rest l.left

-- how many shares are left
abbrev pub decreases-loop-share : goal.decreases-loop-share
decreases-loop-share l = length l.rest
