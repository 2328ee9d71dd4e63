-- The partial tree that accepted openings showed under one root: what is kept of it. The nodes are
-- numbered from the root, which is 1; the halves of node i are 2i and 2i + 1.
use Rattle.std.specs.Prelude.{◌≡◌, ◌+◌, ◌*◌, ◌<◌, ◌≤◌, ℕ, List, length, get_or, Bool, true, false, IsTrue, Vec, vec_capacity}
use Rattle.std.specs.declared.alloc.Global.{Global}
use Rattle.namespace_id.specs.declared.digests.Digest.{Digest}
use Rattle.namespace_id.specs.Digests.{no_digest}
use Rattle.nmt_tree.specs.Digests.{is_ordered_join, node_digest}
use Rattle.nmt_tree.specs.Roots.{is_leaf_count}
use Rattle.nmt_proofs.specs.declared.partial.Node.{Node}

-- what stands for a node that a list does not have
abbrev pub no_node : Node
no_node = record { digest = no_digest; is_joined = false }

-- the digest that is kept of a node
abbrev pub digest_at : List Node → ℕ → Digest
digest_at nodes i = (get_or nodes i no_node).digest

-- whether a node is marked as one of which both halves are kept
abbrev pub is_node_marked : List Node → ℕ → Bool
is_node_marked nodes i = (get_or nodes i no_node).is_joined

-- the halves that are kept of a node join in order, to this digest
pub record AreHalves (nodes : List Node) (i : ℕ) (digest : Digest) : Type 0 where
  pub ordered : is_ordered_join (digest_at nodes (2 * i)) (digest_at nodes (2 * i + 1)) ≡ true
  pub value : node_digest (digest_at nodes (2 * i)) (digest_at nodes (2 * i + 1)) ≡ digest

-- each node that is marked has the digest of its halves, which join in order
abbrev pub AreJoined : List Node → Type 0
AreJoined nodes = (i : ℕ) → is_node_marked nodes i ≡ true → AreHalves nodes i (digest_at nodes i)

-- nodes up to a number have the digests that they had
abbrev pub KeepDigests : ℕ → List Node → List Node → Type 0
KeepDigests i before after = (j : ℕ) → j ≤ i → digest_at after j ≡ digest_at before j

-- a partial tree as contracts see it: how many leaves the tree has, and its root
pub record RootedTree : Type 0 where
  pub count : ℕ
  pub root : Digest

-- what contracts see of a partial tree, by what it keeps
abbrev pub rooted_tree : ℕ → List Node → RootedTree
rooted_tree count nodes = record { count = count; root = digest_at nodes 1 }

-- no node is marked
abbrev pub AreUnmarked : List Node → Type 0
AreUnmarked nodes = (i : ℕ) → is_node_marked nodes i ≡ false

-- the nodes of a partial tree, all of them; each that is marked is joined of its halves
pub record IsPartial (count : ℕ) (nodes : List Node) : Type 0 where
  pub is_count : IsTrue (is_leaf_count count)
  pub room : length nodes ≡ 2 * count
  pub joined : AreJoined nodes

-- what a partial tree keeps: capacity for all nodes, and at least the root; before all are written none is marked
pub record KeepsPartial (count : ℕ) (nodes : Vec Node Global) : Type 0 where
  pub is_count : IsTrue (is_leaf_count count)
  pub capacity : 2 * count ≤ vec_capacity nodes
  pub root : 2 ≤ length nodes.items
  pub room : length nodes.items ≤ 2 * count
  pub unwritten : length nodes.items < 2 * count → AreUnmarked nodes.items
  pub joined : AreJoined nodes.items
