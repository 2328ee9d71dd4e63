use Rattle.std.proofs.Common.{◌≡◌, ◌++◌, length}
use Rattle.std.specs.List.{AllByRecursion}
use Rattle.da_serving.specs.Commit.{commitment_lines}
use Rattle.da_serving.proofs.CommitLemmas.{IsLaid}
use Rattle.da_serving.proofs.commit.put_lines.Given as goal

-- the lines of the blobs before were appended, and those to come are such blobs
abbrev pub invariant-loop-blob : goal.invariant-loop-blob
invariant-loop-blob l = record {
  so_far : l.fn.text.items ++ commitment_lines l.blobs ≡ l.text.items ++ commitment_lines l.rest;
  laid : AllByRecursion IsLaid l.rest;
}

-- how many blobs are left
abbrev pub decreases-loop-blob : goal.decreases-loop-blob
decreases-loop-blob l = length l.rest
