-- Trees level by level, and the digests over parts of their leaves (Celestia specifications, "Data
-- Structures", namespaced Merkle trees).
use Rattle.std.specs.Prelude.{◌≡◌, true, ℕ, zero, suc, ◌+◌, ◌^◌, List, [], ◌∷◌, ◌++◌, get_or}
use Rattle.namespace_id.specs.declared.namespaces.Namespace.{Namespace}
use Rattle.namespace_id.specs.declared.shares.Share.{Share}
use Rattle.namespace_id.specs.declared.digests.Digest.{Digest}
use Rattle.nmt_tree.specs.Digests.{leaf_digest, node_digest, is_ordered_join}
use Rattle.namespace_id.specs.Digests.{no_digest}

-- the digests of leaves, by their namespaces and shares
unfoldable pub leaf_digests : List Namespace → List Share → List Digest
leaf_digests [] shares = []
leaf_digests (name ∷ names) [] = []
leaf_digests (name ∷ names) (share ∷ shares) = leaf_digest name share ∷ leaf_digests names shares

-- the digest over 2 ^ depth leaves from one place on, by the leaves' digests
unfoldable pub span : List Digest → ℕ → ℕ → Digest
span leaves start zero = get_or leaves start no_digest
span leaves start (suc depth) =
    node_digest (span leaves start depth) (span leaves (start + 2 ^ depth) depth)

-- every join over these 2 ^ depth leaves is ordered
unfoldable pub HasOrderedJoins : List Digest → ℕ → ℕ → Type 0
HasOrderedJoins leaves start zero = Unit {0}
HasOrderedJoins leaves start (suc depth) =
    HasOrderedJoins leaves start depth × HasOrderedJoins leaves (start + 2 ^ depth) depth
    × (is_ordered_join (span leaves start depth) (span leaves (start + 2 ^ depth) depth) ≡ true)

-- the level above a level: neighbors joined, left to right
unfoldable pub pairs : List Digest → List Digest
pairs [] = []
pairs (a ∷ []) = []
pairs (a ∷ b ∷ level) = node_digest a b ∷ pairs level

-- all levels one after another, from that of 2 ^ depth leaves up to the root
unfoldable pub levels : ℕ → List Digest → List Digest
levels zero leaves = leaves
levels (suc depth) leaves = leaves ++ levels depth (pairs leaves)
