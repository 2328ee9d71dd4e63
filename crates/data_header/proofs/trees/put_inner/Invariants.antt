use Rattle.std.proofs.Common.{◌≡◌, ◌<◌, ◌≤◌, ◌+◌, ◌*◌, ℕ, length}
use Rattle.data_header.specs.DataRoots.{inner_hash}
use Rattle.data_header.specs.HashTrees.{hash_at}
use Rattle.data_header.proofs.trees.put_inner.Given as goal

-- the last nodes are done, eight by eight, and the leaves stay
abbrev pub invariant-eights : goal.invariant-eights
invariant-eights l = record {
  count : length l.hashes ≡ length l.fn.hashes;
  leaves : (i : ℕ) → l.count ≤ i → hash_at l.hashes i ≡ hash_at l.fn.hashes i;
  inner : (i : ℕ) → l.count ≤ i + 8 * l.eight → i < l.count → hash_at l.hashes i ≡ inner_hash (hash_at l.hashes (2 * i)) (hash_at l.hashes (2 * i + 1));
}

-- so are those that are left
abbrev pub invariant-rest : goal.invariant-rest
invariant-rest l = record {
  count : length l.hashes ≡ length l.fn.hashes;
  leaves : (i : ℕ) → l.count ≤ i → hash_at l.hashes i ≡ hash_at l.fn.hashes i;
  inner : (i : ℕ) → l.count < i + l.done → i < l.count → hash_at l.hashes i ≡ inner_hash (hash_at l.hashes (2 * i)) (hash_at l.hashes (2 * i + 1));
}
