-- What is hashed over leaves and nodes (Celestia specifications, "Data Structures").
use Rattle.std.specs.Prelude.{ℕ, ◌+◌, ◌*◌, List, [], ◌∷◌, ◌++◌, get_or}
use Rattle.namespace_id.specs.declared.namespaces.Namespace.{Namespace}
use Rattle.namespace_id.specs.declared.shares.Share.{Share}
use Rattle.namespace_id.specs.declared.digests.Digest.{Digest}
use Rattle.namespace_id.specs.Digests.{no_digest}

-- what is hashed over the leaf at a place
abbrev pub leaf_bytes : List Namespace → List Share → ℕ → List ℕ
leaf_bytes names shares i =
    0 ∷ (get_or names i (record { 0 = [] })).0 ++ (get_or shares i (record { 0 = [] })).0

-- what is hashed over the node at a place of the level above a level
abbrev pub node_bytes : List Digest → ℕ → List ℕ
node_bytes level i = 1 ∷ (get_or level (2 * i) no_digest).0 ++ (get_or level (2 * i + 1) no_digest).0
