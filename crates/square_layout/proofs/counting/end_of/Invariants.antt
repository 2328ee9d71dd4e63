use Rattle.std.proofs.Common.{◌≡◌, ◌≤◌, drop, min}
use Rattle.square_layout.specs.Blocks.{HaveBytes}
use Rattle.square_layout.specs.Layout.{end_of}
use Rattle.square_layout.specs.Refusals.{most_named}
use Rattle.square_layout.proofs.CountLemmas.{lent}
use Rattle.square_layout.proofs.counting.end_of.Given as goal

-- the end of what is left is the end, and what is left has bytes
abbrev pub invariant-loop-blob : goal.invariant-loop-blob
invariant-loop-blob l = record {
  value : min (end_of l.end (drop l.blob-index (lent l.blobs))) most_named ≡ min (end_of l.fn.end (lent l.blobs)) most_named;
  some : HaveBytes (drop l.blob-index (lent l.blobs));
  fits : l.end ≤ most_named;
}
