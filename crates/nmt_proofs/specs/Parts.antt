-- Partial trees: the tree of all leaves, of which some intervals are only given by their digest.
use Rattle.std.specs.Prelude.{Bool, true, ◌&&◌, if◌then◌else◌, Option, Some, None}
use Rattle.namespace_id.specs.declared.namespaces.Namespace.{Namespace}
use Rattle.namespace_id.specs.declared.shares.Share.{Share}
use Rattle.namespace_id.specs.declared.digests.Digest.{Digest}
use Rattle.nmt_tree.specs.Digests.{leaf_digest, node_digest, is_ordered_join}

-- an interval of a tree: given by its digest, a leaf, or joined of its halves
pub data Part : Type 0 where
  given : (digest : Digest) → Part
  leaf : (name : Namespace) (share : Share) → Part
  join : (left right : Part) → Part

-- the digest of a part: of a leaf or a node the namespaced hash
abbrev pub digest_of : Part → Digest
digest_of (given digest) = digest
digest_of (leaf name share) = leaf_digest name share
digest_of (join left right) = node_digest (digest_of left) (digest_of right)

-- whether every join in a part is ordered
abbrev pub is_in_order : Part → Bool
is_in_order (given digest) = true
is_in_order (leaf name share) = true
is_in_order (join left right) =
    is_in_order left && is_in_order right && is_ordered_join (digest_of left) (digest_of right)

-- the digest of a part in which every join is ordered, none of another
unfoldable pub ordered_digest : Part → Option Digest
ordered_digest part = if is_in_order part then Some (digest_of part) else None
