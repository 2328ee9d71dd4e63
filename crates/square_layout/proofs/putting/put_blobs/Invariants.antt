use Rattle.std.proofs.Common.{◌≡◌, ◌≤◌, ◌++◌, drop, length}
use Rattle.square_layout.specs.Blocks.{HaveBytes}
use Rattle.square_layout.specs.Layout.{end_of, placed_behind}
use Rattle.square_layout.specs.Refusals.{max_shares}
use Rattle.square_layout.proofs.CountLemmas.{lent}
use Rattle.square_layout.proofs.putting.put_blobs.Given as goal

-- what is there and what is left are all, and what is left has bytes and fits
abbrev pub invariant-loop-blob : goal.invariant-loop-blob
invariant-loop-blob l = record {
  all : l.out.items ++ placed_behind l.fn.versioned l.before (length l.out.items) (drop l.blob-index (lent l.blobs))
      ≡ l.fn.out.items ++ placed_behind l.fn.versioned l.fn.gap (length l.fn.out.items) (lent l.blobs);
  some : HaveBytes (drop l.blob-index (lent l.blobs));
  fits : end_of (length l.out.items) (drop l.blob-index (lent l.blobs)) ≤ max_shares;
}
