use Rattle.std.proofs.Common.{◌≡◌, ◌++◌, length}
use Rattle.da_serving.specs.Blobs.{answer_shares}
use Rattle.da_serving.proofs.blobs.answer_shares.Given as goal

-- the shares of the entries before were appended
abbrev pub invariant-loop-entry : goal.invariant-loop-entry
invariant-loop-entry l = answer_shares l.answer ≡ l.shares.items ++ answer_shares l.rest

-- how many entries are left
abbrev pub decreases-loop-entry : goal.decreases-loop-entry
decreases-loop-entry l = length l.rest
