use Rattle.std.proofs.Common.{◌≡◌, ◌≤◌, ◌+◌, drop, min}
use Rattle.square_layout.specs.Blocks.{HaveBytes}
use Rattle.square_layout.specs.Plans.{blobs_bound}
use Rattle.square_layout.specs.Refusals.{most_named}
use Rattle.square_layout.proofs.CountLemmas.{lent}
use Rattle.square_layout.proofs.planning.plan_bound.Given as goal

-- what is counted and what is left are all, and what is left has bytes
abbrev pub invariant-loop-blob : goal.invariant-loop-blob
invariant-loop-blob l = record {
  value : min (l.most + blobs_bound (drop l.blob-index (lent l.blobs))) most_named ≡ min (l.fn.reserve + blobs_bound (lent l.blobs)) most_named;
  some : HaveBytes (drop l.blob-index (lent l.blobs));
  fits : l.most ≤ most_named;
}
