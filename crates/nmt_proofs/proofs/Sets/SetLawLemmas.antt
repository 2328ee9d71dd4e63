-- A set that agrees with a list's tree shows the list's leaves.
use Rattle.std.proofs.Common.{◌≡◌, ℕ, ◌+◌, ◌^◌, ◌≤◌, List, [], ◌∷◌, length, subst, refl, arith}
use Rattle.std.proofs.lemmas.Bool.{eqb-true}
use Rattle.namespace_id.specs.declared.namespaces.Namespace.{Namespace}
use Rattle.namespace_id.specs.declared.shares.Share.{Share}
use Rattle.namespace_id.specs.declared.digests.Digest.{Digest}
use Rattle.nmt_tree.specs.Roots.{root}
use Rattle.nmt_tree.specs.Levels.{leaf_digests}
use Rattle.nmt_proofs.specs.Parts.{digest_of}
use Rattle.nmt_proofs.specs.Openings.{outside, opened, leaves_at}
use Rattle.nmt_proofs.specs.Clashes.{Agree, ClashOr, whole, AreLeaves, IsOpening, ArePlacesBetween, AreListed, AreLeavesOf}
use Rattle.nmt_proofs.specs.Making.{spans}
use Rattle.nmt_proofs.specs.Places.{AreAscending}
use Rattle.nmt_proofs.proofs.Agreement.ListedLemmas.{agreed, leaf_listed, listed_or}

-- the leaves of a set are at single places
pub set_places : (low high : ℕ) (places : List ℕ) (names : List Namespace) (shares : List Share) → AreAscending low high places → ArePlacesBetween low high (leaves_at places names shares)
unfolding leaves_at
set_places low high [] names shares h = tt
set_places low high (p ∷ places) [] shares h = tt
set_places low high (p ∷ places) (n ∷ names) [] h = tt
set_places low high (p ∷ places) (n ∷ names) (s ∷ shares) h = (refl, h.0, h.1, set_places (p + 1) high places names shares h.2)

-- where each is the list's leaf at its place, they are the list's leaves
set_listed : (low high : ℕ) (places : List ℕ) (names : List Namespace) (shares : List Share) (ns : List Namespace) (ss : List Share) → high ≤ length ns → high ≤ length ss
    → AreAscending low high places → AreListed ns ss (leaves_at places names shares) → AreLeavesOf ns ss places names shares
unfolding leaves_at AreLeavesOf
set_listed low high [] names shares ns ss en es h listed = tt
set_listed low high (p ∷ places) [] shares ns ss en es h listed = tt
set_listed low high (p ∷ places) (n ∷ names) [] ns ss en es h listed = tt
set_listed low high (p ∷ places) (n ∷ names) (s ∷ shares) ns ss en es h listed =
    let here = leaf_listed p ns ss n s (omega (arith, en, h.1)) (omega (arith, es, h.1)) listed.0 in
    (here.0, here.1, set_listed (p + 1) high places names shares ns ss en es h.2 listed.1)

-- a set that agrees with a list shows its leaves, and its nodes are the list's
pub set_agreed : (d : ℕ) (places : List ℕ) (names : List Namespace) (shares : List Share) (nodes : List Digest) (ns : List Namespace) (ss : List Share)
    → IsOpening d (leaves_at places names shares) nodes → AreAscending 0 (2 ^ d) places → AreLeaves d ns ss
    → Agree (opened d 0 (leaves_at places names shares) nodes) (whole d ns ss)
    → AreLeavesOf ns ss places names shares × (nodes ≡ spans (leaf_digests ns ss) (outside d 0 (leaves_at places names shares)))
set_agreed d places names shares nodes ns ss h up g same =
    let zero_first : 2 ^ d ≡ 0 + 2 ^ d = omega arith in
    let at : ArePlacesBetween 0 (0 + 2 ^ d) (leaves_at places names shares) = subst (λ (k : ℕ). ArePlacesBetween 0 k (leaves_at places names shares)) zero_first (set_places 0 (2 ^ d) places names shares up) in
    let listed = agreed d 0 ns ss (leaves_at places names shares) nodes at (eqb-true _ _ h.count) same in
    (set_listed 0 (2 ^ d) places names shares ns ss (omega (arith, g.name_count)) (omega (arith, g.share_count)) up listed.0, listed.1)

-- the law of a set under the root of a list
pub set_law : (d : ℕ) (places : List ℕ) (names : List Namespace) (shares : List Share) (nodes : List Digest) (ns : List Namespace) (ss : List Share)
    → IsOpening d (leaves_at places names shares) nodes → AreAscending 0 (2 ^ d) places → AreLeaves d ns ss
    → digest_of (opened d 0 (leaves_at places names shares) nodes) ≡ root d ns ss
    → ClashOr (opened d 0 (leaves_at places names shares) nodes) (whole d ns ss)
    (AreLeavesOf ns ss places names shares × (nodes ≡ spans (leaf_digests ns ss) (outside d 0 (leaves_at places names shares))))
set_law d places names shares nodes ns ss h up g e =
    listed_or d (leaves_at places names shares) nodes ns ss
    (AreLeavesOf ns ss places names shares × (nodes ≡ spans (leaf_digests ns ss) (outside d 0 (leaves_at places names shares)))) h g e
    (set_agreed d places names shares nodes ns ss h up g)
