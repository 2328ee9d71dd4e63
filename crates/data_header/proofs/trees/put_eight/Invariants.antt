use Rattle.std.proofs.Common.{◌≡◌, ◌<◌, ◌≤◌, ◌+◌, ℕ, length}
use Rattle.data_header.specs.HashTrees.{hash_at}
use Rattle.data_header.proofs.trees.put_eight.Given as goal

-- the hashes so far are put, and what is around them stays
abbrev pub invariant-loop-j : goal.invariant-loop-j
invariant-loop-j l = record {
  count : length l.hashes ≡ length l.fn.hashes;
  put : (j : ℕ) → j < l.j → hash_at l.hashes (l.at + j) ≡ hash_at l.made j;
  before : (i : ℕ) → i < l.at → hash_at l.hashes i ≡ hash_at l.fn.hashes i;
  behind : (i : ℕ) → l.at + 8 ≤ i → hash_at l.hashes i ≡ hash_at l.fn.hashes i;
}
