-- Openings: the partial tree that shown parts and given nodes make.
use Rattle.std.specs.Prelude.{◌≡◌, ℕ, zero, suc, ◌+◌, ◌^◌, List, [], ◌∷◌, ◌++◌, length, map, take, drop, get_or, Bool, true, false, not, ◌==◌, ltb, if◌then◌else◌}
use Rattle.std.specs.Str.{bytes_eq}
use Rattle.namespace_id.specs.declared.namespaces.Namespace.{Namespace}
use Rattle.namespace_id.specs.declared.shares.Share.{Share}
use Rattle.namespace_id.specs.declared.digests.Digest.{Digest}
use Rattle.nmt_proofs.specs.Parts.{Part, given, leaf, join, digest_of, is_in_order}
use Rattle.namespace_id.specs.Digests.{no_digest}

-- a part that an opening shows: the places that it has, and what stands there
pub record Shown : Type 0 where
  pub from : ℕ
  pub size : ℕ
  pub part : Part

-- how many of the shown parts begin before a place
unfoldable pub begun : ℕ → List Shown → ℕ
begun middle [] = 0
begun middle (s ∷ shown) = if ltb s.from middle then suc (begun middle shown) else 0

-- whether the interval of this depth in which a shown part begins is that part
unfoldable pub is_interval : ℕ → Shown → Bool
is_interval zero s = true
is_interval (suc depth) s = s.size == 2 ^ suc depth

-- whether an interval of this depth holds something shown and isn't itself shown, so that it is halved
abbrev pub is_halved : ℕ → List Shown → Bool
is_halved depth [] = false
is_halved depth (s ∷ shown) = not (is_interval depth s)

-- the intervals that hold nothing shown, left to right, of the 2 ^ depth places from `start`, which
-- are halved until an interval holds nothing shown or is shown: where each begins, and its depth
unfoldable pub outside : ℕ → ℕ → List Shown → List (ℕ × ℕ)
outside zero start [] = (start, 0) ∷ []
outside zero start (s ∷ shown) = []
outside (suc depth) start [] = (start, suc depth) ∷ []
outside (suc depth) start (s ∷ shown) = if is_interval (suc depth) s then [] else
    outside depth start (take (begun (start + 2 ^ depth) (s ∷ shown)) (s ∷ shown))
    ++ outside depth (start + 2 ^ depth) (drop (begun (start + 2 ^ depth) (s ∷ shown)) (s ∷ shown))

-- the partial tree over these places: an interval that holds nothing shown takes the next node, an
-- interval that is shown is the part, any other is the join of its halves, left first
unfoldable pub opened : ℕ → ℕ → List Shown → List Digest → Part
opened zero start [] nodes = given (get_or nodes 0 no_digest)
opened zero start (s ∷ shown) nodes = s.part
opened (suc depth) start [] nodes = given (get_or nodes 0 no_digest)
opened (suc depth) start (s ∷ shown) nodes = if is_interval (suc depth) s then s.part else
    (let middle : ℕ = start + 2 ^ depth in
    let k : ℕ = begun middle (s ∷ shown) in
    let j : ℕ = length (outside depth start (take k (s ∷ shown))) in
    join (opened depth start (take k (s ∷ shown)) (take j nodes))
    (opened depth middle (drop k (s ∷ shown)) (drop j nodes)))

-- whether an opening has as many nodes as intervals to take one
abbrev pub has_count : ℕ → List Shown → List Digest → Bool
has_count depth shown nodes = length nodes == length (outside depth 0 shown)

-- whether every join of an opening is ordered
abbrev pub has_order : ℕ → List Shown → List Digest → Bool
has_order depth shown nodes = is_in_order (opened depth 0 shown nodes)

-- whether the digest of the tree that an opening makes is the root
abbrev pub has_root : ℕ → List Shown → List Digest → Digest → Bool
has_root depth shown nodes root = bytes_eq (digest_of (opened depth 0 shown nodes)).0 root.0

-- the nodes open the shown parts of 2 ^ depth leaves under the root
pub record Opens (depth : ℕ) (shown : List Shown) (nodes : List Digest) (root : Digest) : Type 0 where
  pub count : has_count depth shown nodes ≡ true
  pub order : has_order depth shown nodes ≡ true
  pub value : has_root depth shown nodes root ≡ true

-- what an inclusion proof shows: one leaf at its place
abbrev pub one_leaf : ℕ → Namespace → Share → List Shown
one_leaf pos name share = record { from = pos; size = 1; part = leaf name share } ∷ []

-- one place of which only the digest of the leaf is shown
abbrev pub one_digest : ℕ → Digest → List Shown
one_digest pos digest = record { from = pos; size = 1; part = given digest } ∷ []

-- what a range proof shows: neighboring leaves of one namespace, from a place on
unfoldable pub leaves_from : ℕ → Namespace → List Share → List Shown
leaves_from from name [] = []
leaves_from from name (share ∷ shares) =
    record { from = from; size = 1; part = leaf name share } ∷ leaves_from (suc from) name shares

-- neighboring places, of which only the digests of the leaves are shown
unfoldable pub digests_from : ℕ → List Digest → List Shown
digests_from from [] = []
digests_from from (digest ∷ digests) =
    record { from = from; size = 1; part = given digest } ∷ digests_from (suc from) digests

-- what the opening of several places shows: the leaf at each
unfoldable pub leaves_at : List ℕ → List Namespace → List Share → List Shown
leaves_at [] names shares = []
leaves_at (pos ∷ places) [] shares = []
leaves_at (pos ∷ places) (name ∷ names) [] = []
leaves_at (pos ∷ places) (name ∷ names) (share ∷ shares) =
    record { from = pos; size = 1; part = leaf name share } ∷ leaves_at places names shares

-- what the opening of neighboring intervals shows, from a place on: the digest of each
unfoldable pub intervals_from : ℕ → List ℕ → List Digest → List Shown
intervals_from from [] digests = []
intervals_from from (size ∷ sizes) [] = []
intervals_from from (size ∷ sizes) (digest ∷ digests) =
    record { from = from; size = size; part = given digest } ∷ intervals_from (from + size) sizes digests

-- a shown part of which only the digest is kept
abbrev pub shadow_of : Shown → Shown
shadow_of s = record { from = s.from; size = s.size; part = given (digest_of s.part) }

-- shown parts of which only the digests are kept
abbrev pub shadow : List Shown → List Shown
shadow ss = map shadow_of ss
