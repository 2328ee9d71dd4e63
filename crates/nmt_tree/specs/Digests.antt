-- The digests of a namespaced Merkle tree (Celestia specifications, "Data Structures").
use Rattle.std.specs.Prelude.{◌∷◌, ◌++◌, Bool, ◌&&◌, if◌then◌else◌}
use Rattle.sha2.specs.Sha256.{sha256}
use Rattle.namespace_id.specs.declared.namespaces.Namespace.{Namespace}
use Rattle.namespace_id.specs.declared.shares.Share.{Share}
use Rattle.namespace_id.specs.declared.digests.Digest.{Digest}
use Rattle.namespace_id.specs.Names.{is_at_most, is_parity, parity, greater_of}
use Rattle.namespace_id.specs.Digests.{least_of, greatest_of}

-- the digest of a leaf: its namespace twice, and the hash
unfoldable pub leaf_digest : Namespace → Share → Digest
leaf_digest name share = record { 0 = name.0 ++ name.0 ++ sha256 (0 ∷ name.0 ++ share.0) }

-- the greatest namespace of a node, in which parity shares don't count where there are others
-- (docs/RULES.md, "Trees")
unfoldable pub joined_greatest : Digest → Digest → Namespace
joined_greatest left right =
    if is_parity (least_of left) then parity else
    (if is_parity (least_of right) then greatest_of left else
    greater_of (greatest_of left) (greatest_of right))

-- the digest of a node: the least namespace of its left half, its greatest, and the hash
unfoldable pub node_digest : Digest → Digest → Digest
node_digest left right = record {
  0 = (least_of left).0 ++ (joined_greatest left right).0 ++ sha256 (1 ∷ left.0 ++ right.0);
}

-- whether a join is ordered: no namespace of the left is above one of the right, and neither digest
-- has its least above its greatest (docs/RULES.md, "Trees")
unfoldable pub is_ordered_join : Digest → Digest → Bool
is_ordered_join left right =
    is_at_most (greatest_of left) (least_of right)
    && is_at_most (least_of left) (greatest_of left)
    && is_at_most (least_of right) (greatest_of right)
