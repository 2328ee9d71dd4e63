-- The data root over a header's axis roots, and the hashes that lead to it (Celestia specifications,
-- "Data Structures"; RFC 6962, 2.1).
use Rattle.std.specs.Prelude.{◌≡◌, ◌<◌, ◌*◌, ◌+◌, ◌/◌, ◌%◌, ◌^◌, ◌==◌, ◌-◌, nat_lt, ℕ, zero, suc, List, [], ◌∷◌, ◌++◌, length, take, drop, true, if◌then◌else◌}
use Rattle.sha2.specs.Sha256.{sha256}
use Rattle.namespace_id.specs.declared.cells.Axis.{Axis}
use Rattle.namespace_id.specs.declared.cells.Axis.TheVariants.{Row, Col}
use Rattle.namespace_id.specs.declared.digests.Digest.{Digest}
use Rattle.namespace_id.specs.Cells.{is_width}
use Rattle.namespace_id.specs.Powers.{halvings}
use Rattle.data_header.specs.Headers.{Roots}

-- the hash of a leaf of the plain Merkle tree, here an axis root (RFC 6962, 2.1: prefix 0x00)
unfoldable pub leaf_hash : Digest → List ℕ
leaf_hash digest = sha256 (0 ∷ digest.0)

-- the hash of a node over two hashes (RFC 6962, 2.1: prefix 0x01)
unfoldable pub inner_hash : List ℕ → List ℕ → List ℕ
inner_hash left right = sha256 (1 ∷ left ++ right)

-- the plain Merkle root of 2 ^ depth leaves: the leaf's hash where there is one, else that of the roots
-- of both halves
unfoldable pub merkle_root : ℕ → List Digest → List ℕ
merkle_root zero [] = []
merkle_root zero (digest ∷ digests) = leaf_hash digest
merkle_root (suc depth) digests =
    inner_hash (merkle_root depth (take (2 ^ depth) digests)) (merkle_root depth (drop (2 ^ depth) digests))

-- how often the 4k axis roots of a header can be halved: once, and then as often as those of one axis
abbrev pub root_halvings : ℕ → ℕ
root_halvings k = suc (halvings (2 * k))

-- the data root of a header: the plain Merkle root over its row roots, and then its column roots
abbrev pub data_root_of : Roots → List ℕ
data_root_of header = merkle_root (root_halvings header.k) (header.rows ++ header.cols)

-- the place of an axis root among the 4k
abbrev pub root_place : ℕ → Axis → ℕ → ℕ
root_place k Row index = index
root_place k Col index = 2 * k + index

-- where hashes lead from a place upwards: at an odd place the next hash stands on the left
unfoldable pub led : ℕ → List ℕ → List (List ℕ) → List ℕ
led place top [] = top
led place top (hash ∷ hashes) =
    led (place / 2) (if place % 2 == 0 then inner_hash top hash else inner_hash hash top) hashes

-- the hashes that lead from a place of 2 ^ depth leaves to their root: each is the root of the half
-- that doesn't hold the place
unfoldable pub path_of : ℕ → List Digest → ℕ → List (List ℕ)
path_of zero digests place = []
path_of (suc depth) digests place =
    if nat_lt place (2 ^ depth) then
    path_of depth (take (2 ^ depth) digests) place
    ++ merkle_root depth (drop (2 ^ depth) digests) ∷ []
    else path_of depth (drop (2 ^ depth) digests) (place - 2 ^ depth)
    ++ merkle_root depth (take (2 ^ depth) digests) ∷ []

-- the hashes lead from an axis root to a data root
pub record OpensRoot (root : List ℕ) (k : ℕ) (axis : Axis) (index : ℕ) (digest : Digest) (hashes : List (List ℕ)) : Type 0 where
  pub width : is_width k ≡ true
  pub place : index < 2 * k
  pub count : length hashes ≡ root_halvings k
  pub leads : led (root_place k axis index) (leaf_hash digest) hashes ≡ root
