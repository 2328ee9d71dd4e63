-- The hashes of all nodes of a plain Merkle tree, kept in one list (RFC 6962, 2.1).
use Rattle.std.specs.Prelude.{◌≡◌, ◌<◌, ℕ, zero, suc, ◌+◌, ◌-◌, ◌*◌, ◌/◌, ◌%◌, ◌==◌, List, [], ◌∷◌, length, get_or, if◌then◌else◌}
use Rattle.namespace_id.specs.declared.digests.Digest.{Digest}
use Rattle.namespace_id.specs.Digests.{no_digest}
use Rattle.data_header.specs.DataRoots.{leaf_hash, inner_hash}

-- the hash at a place
abbrev pub hash_at : List (List ℕ) → ℕ → List ℕ
hash_at hashes i = get_or hashes i []

-- the place beside one, below the same node
abbrev pub beside : ℕ → ℕ
beside place = if place % 2 == 0 then place + 1 else place - 1

-- the hashes that stand beside the way from a place up, on so many levels
unfoldable pub siblings : ℕ → List (List ℕ) → ℕ → List (List ℕ)
siblings zero hashes place = []
siblings (suc levels) hashes place = hash_at hashes (beside place) ∷ siblings levels hashes (place / 2)

-- the hashes of the tree over digests: its root's stands at place 1, those below place i at 2 i and 2 i + 1, and those of
-- the leaves last
pub record AreTreeHashes (digests : List Digest) (hashes : List (List ℕ)) : Type 0 where
  pub count : length hashes ≡ 2 * length digests
  pub leaves : (i : ℕ) → i < length digests → hash_at hashes (length digests + i) ≡ leaf_hash (get_or digests i no_digest)
  pub inner : (i : ℕ) → 0 < i → i < length digests
      → hash_at hashes i ≡ inner_hash (hash_at hashes (2 * i)) (hash_at hashes (2 * i + 1))
