-- The roots of leaf lists (Celestia specifications, "Data Structures").
use Rattle.std.specs.Prelude.{ℕ, zero, suc, ◌^◌, List, [], ◌∷◌, take, drop, Bool, if◌then◌else◌, Option, Some, None}
use Rattle.namespace_id.specs.declared.namespaces.Namespace.{Namespace}
use Rattle.namespace_id.specs.declared.shares.Share.{Share}
use Rattle.namespace_id.specs.declared.digests.Digest.{Digest}
use Rattle.namespace_id.specs.Names.{is_at_most}
use Rattle.namespace_id.specs.Lists.{holds_along}
use Rattle.namespace_id.specs.Powers.{is_power}
pub use Rattle.namespace_id.specs.Powers.{halvings}
use Rattle.nmt_tree.specs.Digests.{leaf_digest, node_digest}
use Rattle.namespace_id.specs.Digests.{no_digest}

-- whether a tree may have this many leaves
abbrev pub is_leaf_count : ℕ → Bool
is_leaf_count n = is_power n

-- the root of 2 ^ depth leaves, by their namespaces and shares: the leaf's digest where there is
-- one, else the node's over the roots of both halves
unfoldable pub root : ℕ → List Namespace → List Share → Digest
root zero (name ∷ names) (share ∷ shares) = leaf_digest name share
root zero [] shares = no_digest
root zero (name ∷ names) [] = no_digest
root (suc depth) names shares =
    node_digest (root depth (take (2 ^ depth) names) (take (2 ^ depth) shares))
    (root depth (drop (2 ^ depth) names) (drop (2 ^ depth) shares))

-- whether no namespace is followed by a smaller one
abbrev pub is_ordered : List Namespace → Bool
is_ordered names = holds_along is_at_most names

-- the root, where the namespaces are in order
unfoldable pub strict_root : ℕ → List Namespace → List Share → Option Digest
strict_root depth names shares = if is_ordered names then Some (root depth names shares) else None
