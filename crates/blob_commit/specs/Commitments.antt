-- The commitment of shares (Celestia specifications, "Data Square Layout", blob share commitment rules; RFC 6962, 2.1).
use Rattle.std.specs.Prelude.{◌<◌, ◌≤◌, ℕ, zero, suc, ◌+◌, ◌^◌, nat_le, List, [], ◌∷◌, ◌++◌, length, map, take, drop, get_or, if◌then◌else◌}
use Rattle.std.specs.Int.{IsPowerOfTwo}
use Rattle.namespace_id.specs.declared.shares.Share.{Share}
use Rattle.namespace_id.specs.declared.digests.Digest.{Digest}
use Rattle.namespace_id.specs.Shares.{name_in}
use Rattle.namespace_id.specs.Sizes.{most_depth}
use Rattle.nmt_tree.specs.Roots.{halvings, root}
use Rattle.data_header.specs.DataRoots.{leaf_hash, inner_hash}
use Rattle.blob_commit.specs.Cuts.{cut}

-- the plain Merkle root over at most 2 ^ depth hashes of leaves: the left subtree has the greatest power of two of
-- leaves that is below their number
unfoldable pub root_over : ℕ → List (List ℕ) → List ℕ
root_over zero hashes = get_or hashes 0 []
root_over (suc depth) hashes =
    if nat_le (length hashes) (2 ^ depth) then root_over depth hashes
    else inner_hash (root_over depth (take (2 ^ depth) hashes)) (root_over depth (drop (2 ^ depth) hashes))

-- the hashes of leaves
abbrev pub leaf_hashes : List Digest → List (List ℕ)
leaf_hashes digests = map leaf_hash digests

-- the plain Merkle root over up to `most_leaves` digests
abbrev pub root_of_digests : List Digest → List ℕ
root_of_digests digests = root_over most_depth (leaf_hashes digests)

-- the root of a subtree over shares, each a leaf under the namespace that it begins with
abbrev pub subtree_root : List Share → Digest
subtree_root shares = root (halvings (length shares)) (map name_in shares) shares

-- the roots of neighboring subtrees of these sizes, from the first share on
unfoldable pub subtree_roots : List ℕ → List Share → List Digest
subtree_roots [] shares = []
subtree_roots (size ∷ sizes) shares =
    root (halvings size) (map name_in (take size shares)) (take size shares) ∷ subtree_roots sizes (drop size shares)

-- the commitment of shares: the plain Merkle root over the roots of the subtrees into which they are cut
abbrev pub commitment_over : List Share → List ℕ
commitment_over shares = root_of_digests (subtree_roots (cut (length shares)) shares)

-- ---- the rule of the plain root in its own words

-- the greatest power of two below a number
pub record IsSplit (count size : ℕ) : Type 0 where
  pub power : IsPowerOfTwo size
  pub below : size < count
  pub greatest : (other : ℕ) → IsPowerOfTwo other → other < count → other ≤ size

-- the plain Merkle root over hashes of leaves (RFC 6962, 2.1): of one the hash; of more the hash of a node over the roots of
-- two parts, of which the first has the greatest power of two below their number
pub data IsPlainRoot : List (List ℕ) → List ℕ → Type 0 where
  one : (hash : List ℕ) → IsPlainRoot (hash ∷ []) hash
  more : (left right : List (List ℕ)) (l r : List ℕ) → IsSplit (length left + length right) (length left)
      → IsPlainRoot left l → IsPlainRoot right r → IsPlainRoot (left ++ right) (inner_hash l r)
