-- Partial plain Merkle trees over axis roots, and the strings that are hashed in them (RFC 6962, 2.1).
use Rattle.std.specs.Prelude.{ℕ, zero, suc, ◌/◌, ◌%◌, ◌-◌, ◌^◌, ◌==◌, nat_lt, List, [], ◌∷◌, ◌++◌, take, drop, Bool, true, false, Option, Some, None, if◌then◌else◌}
use Rattle.namespace_id.specs.declared.digests.Digest.{Digest}
use Rattle.data_header.specs.DataRoots.{leaf_hash, inner_hash}

-- a plain tree: known by its hash alone, a leaf over a digest, or joined of its halves
pub data Plain : Type 0 where
  known : (hash : List ℕ) → Plain
  ending : (digest : Digest) → Plain
  fork : (left right : Plain) → Plain

-- its hash
abbrev pub hash_of : Plain → List ℕ
hash_of (known hash) = hash
hash_of (ending digest) = leaf_hash digest
hash_of (fork left right) = inner_hash (hash_of left) (hash_of right)

-- the string that is hashed for it, none where only the hash is known
abbrev pub hashed_text : Plain → Option (List ℕ)
hashed_text (known hash) = None
hashed_text (ending digest) = Some (0 ∷ digest.0)
hashed_text (fork left right) = Some (1 ∷ hash_of left ++ hash_of right)

-- the string at the end of left (false) and right (true) turns from the root
abbrev pub plain_text_at : List Bool → Plain → Option (List ℕ)
plain_text_at [] tree = hashed_text tree
plain_text_at (turn ∷ turns) (known hash) = None
plain_text_at (turn ∷ turns) (ending digest) = None
plain_text_at (turn ∷ turns) (fork left right) = if turn then plain_text_at turns right else plain_text_at turns left

-- the tree that hashes make from a place upwards: at an odd place the next hash stands on the left
unfoldable pub climbed : ℕ → Plain → List (List ℕ) → Plain
climbed place tree [] = tree
climbed place tree (hash ∷ hashes) =
    climbed (place / 2) (if place % 2 == 0 then fork tree (known hash) else fork (known hash) tree) hashes

-- the tree over all 2 ^ depth digests at the front of a list
unfoldable pub full : ℕ → List Digest → Plain
full zero [] = known []
full zero (digest ∷ digests) = ending digest
full (suc depth) digests = fork (full depth (take (2 ^ depth) digests)) (full depth (drop (2 ^ depth) digests))

-- the turns from the root to a place of 2 ^ depth leaves
unfoldable pub turns_to : ℕ → ℕ → List Bool
turns_to zero place = []
turns_to (suc depth) place =
    if nat_lt place (2 ^ depth) then false ∷ turns_to depth place else true ∷ turns_to depth (place - 2 ^ depth)
