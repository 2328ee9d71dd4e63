use Rattle.std.proofs.Common.{◌≡◌, ◌<◌, ◌+◌, ◌*◌, ℕ, length, get_or}
use Rattle.namespace_id.specs.Digests.{no_digest}
use Rattle.data_header.specs.DataRoots.{leaf_hash}
use Rattle.data_header.specs.HashTrees.{hash_at}
use Rattle.data_header.proofs.trees.put_leaves.Given as goal

-- the leaves so far are put, eight by eight, and what is before them stays
abbrev pub invariant-eights : goal.invariant-eights
invariant-eights l = record {
  count : length l.hashes ≡ length l.fn.hashes;
  put : (i : ℕ) → i < 8 * l.eight → hash_at l.hashes (l.at + i) ≡ leaf_hash (get_or l.digests i no_digest);
  kept : (i : ℕ) → i < l.at → hash_at l.hashes i ≡ hash_at l.fn.hashes i;
}

-- so are those that are left
abbrev pub invariant-rest : goal.invariant-rest
invariant-rest l = record {
  count : length l.hashes ≡ length l.fn.hashes;
  put : (i : ℕ) → i < l.i → hash_at l.hashes (l.at + i) ≡ leaf_hash (get_or l.digests i no_digest);
  kept : (i : ℕ) → i < l.at → hash_at l.hashes i ≡ hash_at l.fn.hashes i;
}
