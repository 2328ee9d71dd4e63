use Rattle.std.proofs.Common.{◌≡◌, ◌++◌, length}
use Rattle.std.specs.List.{flat_map}
use Rattle.da_following.specs.Follow.{blob_line}
use Rattle.da_following.proofs.feed_lines.put_blobs.Given as goal

-- the lines of the blobs before were appended
abbrev pub invariant-loop-blob : goal.invariant-loop-blob
invariant-loop-blob l =
    l.fn.text.items ++ flat_map blob_line l.blobs ≡ l.text.items ++ flat_map blob_line l.rest

-- how many blobs are left
abbrev pub decreases-loop-blob : goal.decreases-loop-blob
decreases-loop-blob l = length l.rest
