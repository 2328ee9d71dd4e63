-- The part of a whole list of leaves.
use Rattle.std.proofs.Common.{◌≡◌, ◌∙◌, ℕ, zero, suc, ◌+◌, ◌^◌, ◌≤◌, List, [], ◌∷◌, take, drop, get_or, refl, ap, ap₂, arith, length-drop}
use Rattle.std.proofs.lemmas.List.{length-take-le, take-take, drop-drop, drop-take}
use Rattle.std.proofs.Math.Nat.{pow-suc}
use Rattle.namespace_id.specs.declared.namespaces.Namespace.{Namespace}
use Rattle.namespace_id.specs.declared.shares.Share.{Share}
use Rattle.namespace_id.specs.Names.{IsNamespace}
use Rattle.namespace_id.specs.Shares.{IsShare}
use Rattle.nmt_tree.specs.Digests.{node_digest}
use Rattle.nmt_tree.specs.Roots.{root}
use Rattle.nmt_tree.specs.Levels.{leaf_digests, span}
use Rattle.nmt_proofs.specs.Parts.{join, digest_of}
use Rattle.namespace_id.specs.Digests.{no_digest}
use Rattle.nmt_proofs.specs.Clashes.{whole, AreLeaves, IsSized, HasDepth, Agree}
use Rattle.nmt_proofs.proofs.Parts.ListLemmas.{each-take, each-drop, same_halves, same_one}
use Rattle.nmt_proofs.proofs.Agreement.AgreeLemmas.{IsFull}

-- the digest of the part is the root of the list
pub digest-whole : (d : ℕ) (ns : List Namespace) (ss : List Share) → digest_of (whole d ns ss) ≡ root d ns ss
unfolding whole root
digest-whole zero (n ∷ ns) (s ∷ ss) = refl
digest-whole zero [] ss = refl
digest-whole zero (n ∷ ns) [] = refl
digest-whole (suc d) ns ss =
    ap₂ node_digest (digest-whole d (take (2 ^ d) ns) (take (2 ^ d) ss)) (digest-whole d (drop (2 ^ d) ns) (drop (2 ^ d) ss))

-- leaves stand at depth 0 only
pub depth-whole : (d : ℕ) (ns : List Namespace) (ss : List Share) → HasDepth d (whole d ns ss)
unfolding whole
depth-whole zero (n ∷ ns) (s ∷ ss) = tt
depth-whole zero [] ss = tt
depth-whole zero (n ∷ ns) [] = tt
depth-whole (suc d) ns ss = (depth-whole d (take (2 ^ d) ns) (take (2 ^ d) ss), depth-whole d (drop (2 ^ d) ns) (drop (2 ^ d) ss))

-- the left half of a list of leaves
pub leaves-left : (d : ℕ) (ns : List Namespace) (ss : List Share) → AreLeaves (suc d) ns ss → AreLeaves d (take (2 ^ d) ns) (take (2 ^ d) ss)
leaves-left d ns ss h = record {
  name_count = length-take-le (2 ^ d) ns (omega (arith, pow-suc 2 d, h.name_count));
  share_count = length-take-le (2 ^ d) ss (omega (arith, pow-suc 2 d, h.share_count));
  name_bytes = each-take IsNamespace (2 ^ d) ns h.name_bytes;
  share_bytes = each-take IsShare (2 ^ d) ss h.share_bytes;
}

-- and its right half
pub leaves-right : (d : ℕ) (ns : List Namespace) (ss : List Share) → AreLeaves (suc d) ns ss → AreLeaves d (drop (2 ^ d) ns) (drop (2 ^ d) ss)
leaves-right d ns ss h = record {
  name_count = omega (arith, pow-suc 2 d, h.name_count, length-drop (2 ^ d) ns);
  share_count = omega (arith, pow-suc 2 d, h.share_count, length-drop (2 ^ d) ss);
  name_bytes = each-drop IsNamespace (2 ^ d) ns h.name_bytes;
  share_bytes = each-drop IsShare (2 ^ d) ss h.share_bytes;
}

-- every leaf of the part is sized
pub sized-whole : (d : ℕ) (ns : List Namespace) (ss : List Share) → AreLeaves d ns ss → IsSized (whole d ns ss)
unfolding whole
sized-whole zero (n ∷ ns) (s ∷ ss) h = (h.name_bytes.0, h.share_bytes.0)
sized-whole zero [] ss h = absurd (omega (arith, h.name_count))
sized-whole zero (n ∷ ns) [] h = absurd (omega (arith, h.share_count))
sized-whole (suc d) ns ss h = (
  sized-whole d (take (2 ^ d) ns) (take (2 ^ d) ss) (leaves-left d ns ss h),
  sized-whole d (drop (2 ^ d) ns) (drop (2 ^ d) ss) (leaves-right d ns ss h),
)

-- nothing is given in it
pub full-whole : (d : ℕ) (ns : List Namespace) (ss : List Share) → AreLeaves d ns ss → IsFull (whole d ns ss)
unfolding whole
full-whole zero (n ∷ ns) (s ∷ ss) h = tt
full-whole zero [] ss h = absurd (omega (arith, h.name_count))
full-whole zero (n ∷ ns) [] h = absurd (omega (arith, h.share_count))
full-whole (suc d) ns ss h = (
  full-whole d (take (2 ^ d) ns) (take (2 ^ d) ss) (leaves-left d ns ss h),
  full-whole d (drop (2 ^ d) ns) (drop (2 ^ d) ss) (leaves-right d ns ss h),
)

-- the leaves behind it play no part
pub whole-take : (d : ℕ) (ns : List Namespace) (ss : List Share) → whole d (take (2 ^ d) ns) (take (2 ^ d) ss) ≡ whole d ns ss
unfolding whole
whole-take zero (n ∷ ns) (s ∷ ss) = refl
whole-take zero [] ss = refl
whole-take zero (n ∷ ns) [] = refl
whole-take (suc d) ns ss =
    let size : ℕ = 2 ^ d in
    let twice : 2 ^ suc d ≡ size + size = omega (arith, pow-suc 2 d) in
    let within : size ≤ 2 ^ suc d = omega (arith, twice) in
    let back : drop size (take (2 ^ suc d) ns) ≡ take size (drop size ns) = ap (λ (k : ℕ). drop size (take k ns)) twice ∙ drop-take size size ns in
    let back' : drop size (take (2 ^ suc d) ss) ≡ take size (drop size ss) = ap (λ (k : ℕ). drop size (take k ss)) twice ∙ drop-take size size ss in
    ap₂ join
    (ap₂ (whole d) (take-take size (2 ^ suc d) ns within) (take-take size (2 ^ suc d) ss within))
    (ap₂ (whole d) back back' ∙ whole-take d (drop size ns) (drop size ss))

-- the halves of the part from a place of a list on
pub whole-halved : (d st : ℕ) (ns : List Namespace) (ss : List Share)
    → whole (suc d) (drop st ns) (drop st ss) ≡ join (whole d (drop st ns) (drop st ss)) (whole d (drop (st + 2 ^ d) ns) (drop (st + 2 ^ d) ss))
unfolding whole
whole-halved d st ns ss = ap₂ join (whole-take d (drop st ns) (drop st ss)) (ap₂ (whole d) (drop-drop (2 ^ d) st ns) (drop-drop (2 ^ d) st ss))

-- names without shares have no digest
no_share : (ns : List Namespace) → digest_of (whole 0 ns []) ≡ no_digest
unfolding whole
no_share [] = refl
no_share (n ∷ ns) = refl

-- the part of one place has the digest of the leaf there
one_is_leaf : (st : ℕ) (ns : List Namespace) (ss : List Share) → digest_of (whole 0 (drop st ns) (drop st ss)) ≡ get_or (leaf_digests ns ss) st no_digest
unfolding whole leaf_digests
one_is_leaf zero [] ss = refl
one_is_leaf (suc st) [] ss = refl
one_is_leaf zero (n ∷ ns) [] = refl
one_is_leaf (suc st) (n ∷ ns) [] = no_share (drop st ns)
one_is_leaf zero (n ∷ ns) (s ∷ ss) = refl
one_is_leaf (suc st) (n ∷ ns) (s ∷ ss) = one_is_leaf st ns ss

-- the digest of the part from a place of a list on is that over the leaves there
pub whole_is_span : (d st : ℕ) (ns : List Namespace) (ss : List Share) → digest_of (whole d (drop st ns) (drop st ss)) ≡ span (leaf_digests ns ss) st d
unfolding span
whole_is_span zero st ns ss = one_is_leaf st ns ss
whole_is_span (suc d) st ns ss =
    ap digest_of (whole-halved d st ns ss) ∙ ap₂ node_digest (whole_is_span d st ns ss) (whole_is_span d (st + 2 ^ d) ns ss)

-- two lists of leaves whose parts agree are one list
pub one_list : (d : ℕ) (ns ms : List Namespace) (ss ts : List Share) → AreLeaves d ns ss → AreLeaves d ms ts → Agree (whole d ns ss) (whole d ms ts) → (ns ≡ ms) × (ss ≡ ts)
unfolding whole
one_list zero [] ms ss ts h g a = absurd (omega (arith, h.name_count))
one_list zero (n ∷ ns) ms [] ts h g a = absurd (omega (arith, h.share_count))
one_list zero (n ∷ ns) [] (s ∷ ss) ts h g a = absurd (omega (arith, g.name_count))
one_list zero (n ∷ ns) (m ∷ ms) (s ∷ ss) [] h g a = absurd (omega (arith, g.share_count))
one_list zero (n ∷ ns) (m ∷ ms) (s ∷ ss) (t ∷ ts) h g a =
    (same_one (n ∷ ns) (m ∷ ms) n h.name_count g.name_count a.0, same_one (s ∷ ss) (t ∷ ts) s h.share_count g.share_count a.1)
one_list (suc d) ns ms ss ts h g a =
    let size : ℕ = 2 ^ d in
    let l = one_list d (take size ns) (take size ms) (take size ss) (take size ts) (leaves-left d ns ss h) (leaves-left d ms ts g) a.0 in
    let r = one_list d (drop size ns) (drop size ms) (drop size ss) (drop size ts) (leaves-right d ns ss h) (leaves-right d ms ts g) a.1 in
    (same_halves size ns ms l.0 r.0, same_halves size ss ts l.1 r.1)
