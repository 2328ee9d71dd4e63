-- Openings made from the digests of leaves.
use Rattle.std.specs.Prelude.{◌≡◌, ◌<◌, ◌≤◌, ℕ, ◌+◌, List, length, take, drop, replicate, None, [], ◌∷◌, map, get_or, true}
use Rattle.namespace_id.specs.declared.namespaces.Namespace.{Namespace}
use Rattle.namespace_id.specs.declared.shares.Share.{Share}
use Rattle.namespace_id.specs.declared.digests.Digest.{Digest}
use Rattle.nmt_tree.specs.Digests.{leaf_digest}
use Rattle.nmt_tree.specs.Roots.{halvings}
use Rattle.nmt_tree.specs.Levels.{span, leaf_digests}
use Rattle.nmt_proofs.specs.Complete.{range_break, absence_break, IsBetween}
use Rattle.nmt_proofs.specs.Clashes.{AreLeaves}
use Rattle.nmt_proofs.specs.Parts.{digest_of, is_in_order}
use Rattle.namespace_id.specs.Digests.{no_digest}
use Rattle.nmt_proofs.specs.Openings.{Shown, outside, Opens, one_leaf, one_digest, leaves_from, digests_from, intervals_from}

-- the digests over intervals of leaves, each told by where it begins and its depth
abbrev pub spans : List Digest → List (ℕ × ℕ) → List Digest
spans leaves intervals = map (λ i. span leaves i.0 i.1) intervals

-- shown parts over single places, ascending from `low` on and below `high`, each with the digest of
-- the leaf at its place
unfoldable pub AreAtLeaves : List Digest → ℕ → ℕ → List Shown → Type 0
AreAtLeaves leaves low high [] = Unit {0}
AreAtLeaves leaves low high (s ∷ shown) =
    (s.size ≡ 1) × (low ≤ s.from) × (s.from < high)
    × (digest_of s.part ≡ get_or leaves s.from no_digest) × (is_in_order s.part ≡ true)
    × AreAtLeaves leaves (s.from + 1) high shown

-- the nodes that open the leaf at a place
abbrev pub leaf_nodes : ℕ → List Digest → ℕ → List Digest
leaf_nodes count leaves pos =
    spans leaves (outside (halvings count) 0 (one_digest pos (get_or leaves pos no_digest)))

-- nodes open the digest of the leaf at a place, under the root over the leaves
abbrev pub OpensDigest : ℕ → List Digest → ℕ → List Digest → Type 0
OpensDigest count leaves pos nodes =
    Opens (halvings count) (one_digest pos (get_or leaves pos no_digest)) nodes
    (span leaves 0 (halvings count))

-- nodes open each leaf that has this digest
abbrev pub OpensLeaf : ℕ → List Digest → ℕ → List Digest → Type 0
OpensLeaf count leaves pos nodes =
    (name : Namespace) (share : Share) → leaf_digest name share ≡ get_or leaves pos no_digest →
    Opens (halvings count) (one_leaf pos name share) nodes (span leaves 0 (halvings count))

-- the nodes that open so many leaves from a place on
abbrev pub range_nodes : ℕ → List Digest → ℕ → ℕ → List Digest
range_nodes count leaves from number =
    spans leaves (outside (halvings count) 0 (digests_from from (take number (drop from leaves))))

-- nodes open each range of leaves that has these digests
abbrev pub OpensLeaves : ℕ → List Digest → ℕ → ℕ → List Digest → Type 0
OpensLeaves count leaves from number nodes =
    (name : Namespace) (shares : List Share) → length shares ≡ number →
    leaf_digests (replicate number name) shares ≡ take number (drop from leaves) →
    Opens (halvings count) (leaves_from from name shares) nodes (span leaves 0 (halvings count))

-- nodes leave no other place for a namespace of which all leaves stand in the range
abbrev pub CompletesRange : ℕ → List Digest → ℕ → ℕ → List Digest → Type 0
CompletesRange count leaves from number nodes =
    (name : Namespace) (names : List Namespace) (shares shown : List Share) →
    AreLeaves (halvings count) names shares → leaves ≡ leaf_digests names shares →
    IsBetween name names from (from + number) → length shown ≡ number →
    range_break (halvings count) from name shown nodes ≡ None

-- nodes leave no place for a namespace below that of the leaf at a place and above those before it
abbrev pub CompletesAbsence : ℕ → List Digest → ℕ → Digest → List Digest → Type 0
CompletesAbsence count leaves pos leaf nodes =
    (name : Namespace) (names : List Namespace) (shares : List Share) →
    AreLeaves (halvings count) names shares → leaves ≡ leaf_digests names shares →
    IsBetween name names pos pos → absence_break (halvings count) pos name leaf nodes ≡ None

-- the digests over neighboring intervals of leaves, from a place on
unfoldable pub interval_digests : List Digest → ℕ → List ℕ → List Digest
interval_digests leaves from [] = []
interval_digests leaves from (size ∷ sizes) = span leaves from (halvings size) ∷ interval_digests leaves (from + size) sizes

-- what is shown of subtrees of these sizes, side by side from a place on
abbrev pub subtrees : List Digest → ℕ → List ℕ → List Shown
subtrees leaves from sizes = intervals_from from sizes (interval_digests leaves from sizes)

-- the nodes that open them
abbrev pub subtree_nodes : ℕ → List Digest → ℕ → List ℕ → List Digest
subtree_nodes count leaves from sizes = spans leaves (outside (halvings count) 0 (subtrees leaves from sizes))

-- nodes open the digests of subtrees, under the root over the leaves
abbrev pub OpensSubtrees : ℕ → List Digest → ℕ → List ℕ → List Digest → Type 0
OpensSubtrees count leaves from sizes nodes =
    Opens (halvings count) (subtrees leaves from sizes) nodes (span leaves 0 (halvings count))
