-- What openings under the root of a list of leaves say of the list.
use Rattle.std.specs.Prelude.{◌≡◌, ◌^◌, ◌<◌, ◌≤◌, ℕ, List, length, Some, ◌+◌, get_or, None, true, false}
use Rattle.std.specs.List.{slice_get}
use Rattle.namespace_id.specs.declared.namespaces.Namespace.{Namespace}
use Rattle.namespace_id.specs.declared.shares.Share.{Share}
use Rattle.namespace_id.specs.declared.digests.Digest.{Digest}
use Rattle.namespace_id.specs.Sizes.{most_depth}
use Rattle.nmt_tree.specs.Roots.{root, is_ordered}
use Rattle.nmt_tree.specs.Levels.{leaf_digests}
use Rattle.nmt_proofs.specs.Parts.{digest_of}
use Rattle.nmt_proofs.specs.Openings.{Shown, one_leaf, leaves_at, intervals_from, opened, outside, leaves_from, one_digest}
use Rattle.nmt_proofs.specs.Clashes.{ClashOr, Agree, whole, AreLeaves, IsOpening, ArePlacesBetween, AreListed, AreLeavesOf}
use Rattle.nmt_proofs.specs.Places.{AreAscending, AreAligned}
use Rattle.nmt_proofs.specs.Making.{spans, interval_digests}
use Rattle.namespace_id.specs.Names.{IsNamespace, is_parity}
use Rattle.namespace_id.specs.Digests.{no_digest}
use Rattle.nmt_proofs.specs.Complete.{range_break, absence_break, IsBetween, StandsBetween, IsNowhereElse}

-- an opening under the root of a list of leaves agrees with them, or a collision is named
abbrev pub OpeningAgrees : Type 0
OpeningAgrees = (depth : ℕ) (shown : List Shown) (nodes : List Digest) (names : List Namespace)
    (shares : List Share) → IsOpening depth shown nodes → AreLeaves depth names shares
    → digest_of (opened depth 0 shown nodes) ≡ root depth names shares
    → ClashOr (opened depth 0 shown nodes) (whole depth names shares)
    (Agree (opened depth 0 shown nodes) (whole depth names shares))

-- one that shows single places shows the list's leaves, and its nodes are the digests over those that are left out
abbrev pub PlacesAreListed : Type 0
PlacesAreListed = (depth : ℕ) (shown : List Shown) (nodes : List Digest) (names : List Namespace)
    (shares : List Share) → IsOpening depth shown nodes → ArePlacesBetween 0 (2 ^ depth) shown
    → AreLeaves depth names shares → digest_of (opened depth 0 shown nodes) ≡ root depth names shares
    → ClashOr (opened depth 0 shown nodes) (whole depth names shares)
    (AreListed names shares shown × (nodes ≡ spans (leaf_digests names shares) (outside depth 0 shown)))

-- the same for one that shows one leaf
abbrev pub LeafIsListed : Type 0
LeafIsListed = (depth pos : ℕ) (name : Namespace) (share : Share) (nodes : List Digest) (names : List Namespace)
    (shares : List Share) → IsOpening depth (one_leaf pos name share) nodes → pos < 2 ^ depth
    → AreLeaves depth names shares
    → digest_of (opened depth 0 (one_leaf pos name share) nodes) ≡ root depth names shares
    → ClashOr (opened depth 0 (one_leaf pos name share) nodes) (whole depth names shares)
    ((slice_get names pos ≡ Some name) × (slice_get shares pos ≡ Some share)
    × (nodes ≡ spans (leaf_digests names shares) (outside depth 0 (one_leaf pos name share))))

-- the same for one that shows the leaves of a set of places
abbrev pub SetIsListed : Type 0
SetIsListed = (depth : ℕ) (places : List ℕ) (shown_names : List Namespace) (shown_shares : List Share)
    (nodes : List Digest) (names : List Namespace) (shares : List Share)
    → IsOpening depth (leaves_at places shown_names shown_shares) nodes → AreAscending 0 (2 ^ depth) places
    → AreLeaves depth names shares
    → digest_of (opened depth 0 (leaves_at places shown_names shown_shares) nodes) ≡ root depth names shares
    → ClashOr (opened depth 0 (leaves_at places shown_names shown_shares) nodes) (whole depth names shares)
    (AreLeavesOf names shares places shown_names shown_shares
    × (nodes ≡ spans (leaf_digests names shares) (outside depth 0 (leaves_at places shown_names shown_shares))))

-- the same for one that shows neighboring subtrees: their digests are those over the list's leaves
abbrev pub SubtreesAreListed : Type 0
SubtreesAreListed = (depth from : ℕ) (sizes : List ℕ) (digests nodes : List Digest) (names : List Namespace)
    (shares : List Share) → depth ≤ most_depth → IsOpening depth (intervals_from from sizes digests) nodes
    → AreAligned from (2 ^ depth) sizes → length digests ≡ length sizes → AreLeaves depth names shares
    → digest_of (opened depth 0 (intervals_from from sizes digests) nodes) ≡ root depth names shares
    → ClashOr (opened depth 0 (intervals_from from sizes digests) nodes) (whole depth names shares)
    ((digests ≡ interval_digests (leaf_digests names shares) from sizes)
    × (nodes ≡ spans (leaf_digests names shares) (outside depth 0 (intervals_from from sizes digests))))

-- two openings of one leaf place under one root are one opening
abbrev pub OneOpening : Type 0
OneOpening = (depth pos : ℕ) (name name' : Namespace) (share share' : Share) (nodes nodes' : List Digest)
    → IsOpening depth (one_leaf pos name share) nodes → IsOpening depth (one_leaf pos name' share') nodes'
    → digest_of (opened depth 0 (one_leaf pos name share) nodes)
    ≡ digest_of (opened depth 0 (one_leaf pos name' share') nodes')
    → ClashOr (opened depth 0 (one_leaf pos name share) nodes)
    (opened depth 0 (one_leaf pos name' share') nodes') ((name ≡ name') × (share ≡ share') × (nodes ≡ nodes'))

-- two lists of leaves with one root are one list
abbrev pub OneList : Type 0
OneList = (depth : ℕ) (names names' : List Namespace) (shares shares' : List Share)
    → AreLeaves depth names shares → AreLeaves depth names' shares'
    → root depth names shares ≡ root depth names' shares'
    → ClashOr (whole depth names shares) (whole depth names' shares') ((names ≡ names') × (shares ≡ shares'))

-- nodes outside a range leave no place where the namespaces before it are below one, and those behind above it
abbrev pub RangeLeavesNoPlace : Type 0
RangeLeavesNoPlace = (depth from : ℕ) (name : Namespace) (names : List Namespace) (shares shown : List Share)
    → AreLeaves depth names shares → 0 < length shown → from + length shown ≤ 2 ^ depth
    → IsBetween name names from (from + length shown)
    → range_break depth from name shown (spans (leaf_digests names shares) (outside depth 0
    (leaves_from from name shown)))
    ≡ None

-- the same for the place at which an absence is shown
abbrev pub AbsenceLeavesNoPlace : Type 0
AbsenceLeavesNoPlace = (depth pos : ℕ) (name : Namespace) (names : List Namespace) (shares : List Share)
    (leaf : Digest) → AreLeaves depth names shares → pos < 2 ^ depth → IsBetween name names pos pos
    → leaf ≡ get_or (leaf_digests names shares) pos no_digest
    → absence_break depth pos name leaf (spans (leaf_digests names shares) (outside depth 0
    (one_digest pos leaf)))
    ≡ None

-- where namespaces never fall and the nodes leave no place, it is so, but that PARITY may stand before the range
abbrev pub RangeStandsBetween : Type 0
RangeStandsBetween = (depth from : ℕ) (name : Namespace) (names : List Namespace) (shares shown : List Share)
    → IsNamespace name → AreLeaves depth names shares → is_ordered names ≡ true → 0 < length shown
    → from + length shown ≤ 2 ^ depth
    → range_break depth from name shown (spans (leaf_digests names shares) (outside depth 0
    (leaves_from from name shown)))
    ≡ None → StandsBetween name names from (from + length shown)

-- the same for the place at which an absence is shown
abbrev pub AbsenceStandsBetween : Type 0
AbsenceStandsBetween = (depth pos : ℕ) (name : Namespace) (names : List Namespace) (shares : List Share)
    (leaf : Digest) → IsNamespace name → AreLeaves depth names shares → is_ordered names ≡ true
    → pos < 2 ^ depth → leaf ≡ get_or (leaf_digests names shares) pos no_digest
    → absence_break depth pos name leaf (spans (leaf_digests names shares) (outside depth 0
    (one_digest pos leaf)))
    ≡ None → StandsBetween name names pos pos

-- so no leaf outside the range has the namespace, which isn't PARITY
abbrev pub RangeIsWhole : Type 0
RangeIsWhole = (depth from : ℕ) (name : Namespace) (names : List Namespace) (shares shown : List Share)
    → IsNamespace name → is_parity name ≡ false → AreLeaves depth names shares → is_ordered names ≡ true
    → 0 < length shown → from + length shown ≤ 2 ^ depth
    → range_break depth from name shown (spans (leaf_digests names shares) (outside depth 0
    (leaves_from from name shown)))
    ≡ None → IsNowhereElse name names from (from + length shown)

-- so no leaf has it where its absence is shown
abbrev pub AbsenceIsTrue : Type 0
AbsenceIsTrue = (depth pos : ℕ) (name : Namespace) (names : List Namespace) (shares : List Share)
    (leaf : Digest) → IsNamespace name → is_parity name ≡ false → AreLeaves depth names shares
    → is_ordered names ≡ true → pos < 2 ^ depth → leaf ≡ get_or (leaf_digests names shares) pos no_digest
    → absence_break depth pos name leaf (spans (leaf_digests names shares) (outside depth 0
    (one_digest pos leaf)))
    ≡ None → IsNowhereElse name names pos pos
