-- Openings of one leaf, as values.
use Rattle.std.specs.Prelude.{ℕ, List, [], get_or, Bool, ◌&&◌}
use Rattle.std.specs.Cmp.Lexicographic.{pointwise}
use Rattle.std.specs.Str.{bytes_eq}
use Rattle.namespace_id.specs.declared.namespaces.Namespace.{Namespace}
use Rattle.namespace_id.specs.declared.shares.Share.{Share}
use Rattle.namespace_id.specs.declared.digests.Digest.{Digest}
use Rattle.namespace_id.specs.Names.{IsNamespace}
use Rattle.namespace_id.specs.Shares.{IsShare}
use Rattle.namespace_id.specs.Digests.{AreDigests}
use Rattle.nmt_tree.specs.Roots.{halvings}
use Rattle.nmt_proofs.specs.Parts.{Part}
use Rattle.nmt_proofs.specs.Openings.{one_leaf, opened, has_count}
use Rattle.hash_clash.specs.declared.openings.Opening.{Opening}

-- the namespace, the share and each node of an opening is a string of its length
pub record HasShape (opening : Opening) : Type 0 where
  pub name : IsNamespace opening.name
  pub share : IsShare opening.share
  pub nodes : AreDigests opening.path

-- the part that an opening makes at a place of n leaves
abbrev pub opened_at : ℕ → ℕ → Opening → Part
opened_at n pos opening =
    opened (halvings n) 0 (one_leaf pos opening.name opening.share) opening.path

-- whether it has as many nodes as there are subtrees that don't hold the place
abbrev pub is_counted : ℕ → ℕ → Opening → Bool
is_counted n pos opening =
    has_count (halvings n) (one_leaf pos opening.name opening.share) opening.path

-- whether two namespaces are one
abbrev pub is_one_name : Namespace → Namespace → Bool
is_one_name a b = bytes_eq a.0 b.0

-- whether two shares are one
abbrev pub is_one_share : Share → Share → Bool
is_one_share a b = bytes_eq a.0 b.0

-- whether two digests are one
abbrev pub is_one_digest : Digest → Digest → Bool
is_one_digest a b = bytes_eq a.0 b.0

-- whether two openings are one, in namespace, share and nodes
abbrev pub is_one_opening : Opening → Opening → Bool
is_one_opening a b =
    is_one_name a.name b.name && is_one_share a.share b.share
    && pointwise is_one_digest a.path b.path

-- whether a list has this leaf at a place
abbrev pub is_leaf_at : List Namespace → List Share → ℕ → Namespace → Share → Bool
is_leaf_at names shares pos name share =
    is_one_name (get_or names pos (record { 0 = [] })) name
    && is_one_share (get_or shares pos (record { 0 = [] })) share

-- whether two lists of leaves are one
abbrev pub is_one_list : List Namespace → List Share → List Namespace → List Share → Bool
is_one_list names shares names' shares' =
    pointwise is_one_name names names' && pointwise is_one_share shares shares'
