use Rattle.std.proofs.Common.{◌≡◌, drop}
use Rattle.square_layout.specs.Refusals.{empty_blob}
use Rattle.square_layout.proofs.checking.empty_blob.Given as goal

-- what is found from here on is what is found
abbrev pub invariant-loop-i : goal.invariant-loop-i
invariant-loop-i l = empty_blob l.i (drop l.i l.blobs) ≡ empty_blob 0 l.blobs
