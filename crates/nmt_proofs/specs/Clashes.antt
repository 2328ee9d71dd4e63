-- Where two parts with one digest differ: two strings with one SHA-256 digest.
use Rattle.std.specs.Prelude.{◌≡◌, ◌≢◌, ◌^◌, ◌<◌, ◌≤◌, ◌+◌, ℕ, zero, suc, List, [], ◌∷◌, ◌++◌, length, take, drop, true, if◌then◌else◌, Option, Some, None, MatchOption}
use Rattle.std.specs.Option.{option_or}
use Rattle.std.specs.List.{AllByRecursion, slice_get}
use Rattle.std.specs.Str.{bytes_eq}
use Rattle.sha2.specs.Sha256.{sha256}
use Rattle.namespace_id.specs.declared.namespaces.Namespace.{Namespace}
use Rattle.namespace_id.specs.declared.shares.Share.{Share}
use Rattle.namespace_id.specs.declared.digests.Digest.{Digest}
use Rattle.namespace_id.specs.Bytes.{AreBytes}
use Rattle.namespace_id.specs.Names.{IsNamespace, AreNamespaces}
use Rattle.namespace_id.specs.Shares.{IsShare, AreShares}
use Rattle.namespace_id.specs.Digests.{IsDigest, AreDigests, no_digest}
use Rattle.nmt_proofs.specs.Parts.{Part, given, leaf, join, digest_of}
use Rattle.nmt_proofs.specs.Openings.{Shown, has_count}

-- a SHA-256 collision: two different byte strings with one digest
pub record IsClash (left right : List ℕ) : Type 0 where
  pub left_bytes : AreBytes left
  pub right_bytes : AreBytes right
  pub apart : left ≢ right
  pub digest : sha256 left ≡ sha256 right

-- the string that is hashed for a leaf (RFC 6962, 2.1: prefix 0x00)
abbrev pub leaf_text : Namespace → Share → List ℕ
leaf_text name share = 0 ∷ name.0 ++ share.0

-- the string that is hashed for a node over two digests (prefix 0x01)
abbrev pub join_text : Digest → Digest → List ℕ
join_text left right = 1 ∷ left.0 ++ right.0

-- two strings, where they differ, else what comes after them
abbrev pub apart_or : List ℕ → List ℕ → Option (List ℕ × List ℕ) → Option (List ℕ × List ℕ)
apart_or a b rest = if bytes_eq a b then rest else Some (a, b)

-- the strings at the first interval, root first and left half before right half, for which both
-- parts have a string and these differ; a given digest has none
unfoldable pub clash_at : Part → Part → Option (List ℕ × List ℕ)
clash_at (given d) q = None
clash_at (leaf name share) (given e) = None
clash_at (leaf name share) (leaf name' share') =
    apart_or (leaf_text name share) (leaf_text name' share') None
clash_at (leaf name share) (join left' right') = None
clash_at (join left right) (given e) = None
clash_at (join left right) (leaf name' share') = None
clash_at (join left right) (join left' right') =
    apart_or (join_text (digest_of left) (digest_of right))
    (join_text (digest_of left') (digest_of right'))
    (option_or (clash_at left left') (clash_at right right'))

-- a clash of two parts is in hand, or a fact holds
abbrev pub ClashOr : Part → Part → Type 0 → Type 0
ClashOr p q Fact = MatchOption (clash_at p q) Fact (λ texts. IsClash texts.0 texts.1)

-- each digest, namespace and share in a part is a string of its length
abbrev pub IsSized : Part → Type 0
IsSized (given digest) = IsDigest digest
IsSized (leaf name share) = IsNamespace name × IsShare share
IsSized (join left right) = IsSized left × IsSized right

-- the leaves of a part stand for one place each, where it stands for 2 ^ depth
abbrev pub HasDepth : ℕ → Part → Type 0
HasDepth depth (given digest) = Unit {0}
HasDepth zero (leaf name share) = Unit {0}
HasDepth (suc depth) (leaf name share) = ⊥
HasDepth zero (join left right) = ⊥
HasDepth (suc depth) (join left right) = HasDepth depth left × HasDepth depth right

-- two parts are the same wherever both show something, and a digest that one gives is the other's
abbrev pub Agree : Part → Part → Type 0
Agree (given d) q = d ≡ digest_of q
Agree (leaf name share) (given e) = digest_of (leaf name share) ≡ e
Agree (leaf name share) (leaf name' share') = (name ≡ name') × (share ≡ share')
Agree (leaf name share) (join left' right') = ⊥
Agree (join left right) (given e) = digest_of (join left right) ≡ e
Agree (join left right) (leaf name' share') = ⊥
Agree (join left right) (join left' right') = Agree left left' × Agree right right'

-- the part of all 2 ^ depth leaves at the front of a list, in which no digest is given
unfoldable pub whole : ℕ → List Namespace → List Share → Part
whole zero (name ∷ names) (share ∷ shares) = leaf name share
whole zero [] shares = given no_digest
whole zero (name ∷ names) [] = given no_digest
whole (suc depth) names shares =
    join (whole depth (take (2 ^ depth) names) (take (2 ^ depth) shares))
    (whole depth (drop (2 ^ depth) names) (drop (2 ^ depth) shares))

-- the namespaces and shares of 2 ^ depth leaves
pub record AreLeaves (depth : ℕ) (names : List Namespace) (shares : List Share) : Type 0 where
  pub name_count : length names ≡ 2 ^ depth
  pub share_count : length shares ≡ 2 ^ depth
  pub name_bytes : AreNamespaces names
  pub share_bytes : AreShares shares

-- what an opening may show: a leaf at its place, or the digest of an interval
abbrev pub IsShown : ℕ → Part → Type 0
IsShown size (given digest) = IsDigest digest
IsShown size (leaf name share) = (size ≡ 1) × IsNamespace name × IsShare share
IsShown size (join left right) = ⊥

-- each shown part is one that an opening may show
abbrev pub AreShown : List Shown → Type 0
AreShown shown = AllByRecursion (λ s. IsShown s.size s.part) shown

-- shown parts, and as many nodes as they leave intervals out
pub record IsOpening (depth : ℕ) (shown : List Shown) (nodes : List Digest) : Type 0 where
  pub count : has_count depth shown nodes ≡ true
  pub parts : AreShown shown
  pub node_bytes : AreDigests nodes

-- single places, ascending, from `low` on and below `high`
abbrev pub ArePlacesBetween : ℕ → ℕ → List Shown → Type 0
ArePlacesBetween low high [] = Unit {0}
ArePlacesBetween low high (s ∷ shown) =
    (s.size ≡ 1) × (low ≤ s.from) × (s.from < high) × ArePlacesBetween (s.from + 1) high shown

-- what is shown at each place is the list's leaf there, or that leaf's digest
abbrev pub AreListed : List Namespace → List Share → List Shown → Type 0
AreListed names shares shown =
    AllByRecursion (λ s. Agree s.part (whole 0 (drop s.from names) (drop s.from shares))) shown

-- the leaves that a set shows at its places are the list's
unfoldable pub AreLeavesOf : List Namespace → List Share → List ℕ → List Namespace → List Share → Type 0
AreLeavesOf names shares [] shown_names shown_shares = Unit {0}
AreLeavesOf names shares (pos ∷ places) [] shown_shares = Unit {0}
AreLeavesOf names shares (pos ∷ places) (name ∷ shown_names) [] = Unit {0}
AreLeavesOf names shares (pos ∷ places) (name ∷ shown_names) (share ∷ shown_shares) =
    (slice_get names pos ≡ Some name) × (slice_get shares pos ≡ Some share)
    × AreLeavesOf names shares places shown_names shown_shares
