use Rattle.std.proofs.Common.{◌≡◌, ◌++◌, length, drop}
use Rattle.blob_commit.specs.Commitments.{leaf_hashes, subtree_roots}
use Rattle.blob_commit.proofs.CutLemmas.{total}
use Rattle.blob_commit.proofs.committing.commitment.Given as goal

-- the hashes so far, and those of what is left
abbrev pub invariant-loop-i : goal.invariant-loop-i
invariant-loop-i l = record {
  shares : total (drop l.i l.sizes) ≡ length l.rest;
  hashes : l.hashes ++ leaf_hashes (subtree_roots (drop l.i l.sizes) l.rest) ≡ leaf_hashes (subtree_roots l.sizes l.shares);
  count : length l.hashes ≡ l.i;
}
