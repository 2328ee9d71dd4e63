-- An opening that agrees with a list's part shows the list's leaves, and its nodes are the list's.
use Rattle.std.proofs.Common.{◌≡◌, ◌∙◌, ℕ, zero, suc, ◌+◌, ◌^◌, ◌<◌, ◌≤◌, List, [], ◌∷◌, ◌++◌, length, take, drop, Bool, false, cond, Some, None, refl, sym, ap, subst, subst₂, arith}
use Rattle.std.specs.List.{slice_get}
use Rattle.std.proofs.lemmas.List.{take-append-drop}
use Rattle.std.proofs.lemmas.Bool.{eqb-true}
use Rattle.std.proofs.Math.Nat.{pow-suc}
use Rattle.namespace_id.specs.declared.namespaces.Namespace.{Namespace}
use Rattle.namespace_id.specs.declared.shares.Share.{Share}
use Rattle.namespace_id.specs.declared.digests.Digest.{Digest}
use Rattle.nmt_tree.specs.Roots.{root}
use Rattle.nmt_tree.specs.Levels.{leaf_digests, span}
use Rattle.nmt_proofs.specs.Parts.{Part, leaf, join, digest_of}
use Rattle.namespace_id.specs.Digests.{no_digest}
use Rattle.nmt_proofs.specs.Openings.{Shown, begun, is_interval, outside, opened, one_leaf}
use Rattle.nmt_proofs.specs.Clashes.{Agree, HasDepth, ClashOr, clash_at, whole, AreLeaves, IsOpening, ArePlacesBetween, AreListed}
use Rattle.nmt_proofs.specs.Making.{spans}
use Rattle.nmt_proofs.proofs.Parts.ListLemmas.{each-append, same_one}
use Rattle.nmt_proofs.proofs.Parts.BegunLemmas.{places-halves}
use Rattle.nmt_proofs.proofs.Parts.SingleLemmas.{single}
use Rattle.nmt_proofs.proofs.Agreement.AgreeLemmas.{agree_or, fit_together}
use Rattle.nmt_proofs.proofs.Parts.WholeLemmas.{digest-whole, depth-whole, sized-whole, full-whole, whole-halved, whole_is_span, one_list}
use Rattle.nmt_proofs.proofs.Parts.ShownLemmas.{half_counts, opening-sized, opening-deep}
use Rattle.nmt_proofs.proofs.Agreement.PutLemmas.{halved_nodes, no_node}

-- where there is no place, none is shown
no_more : (low high : ℕ) (xs : List Shown) → high ≤ low → ArePlacesBetween low high xs → xs ≡ []
no_more low high [] h of = refl
no_more low high (s ∷ xs) h of = absurd (omega (arith, of.1, of.2))

-- where what is opened from a place on agrees with a list, its leaves and its nodes are the list's
pub agreed : (d st : ℕ) (ns : List Namespace) (ss : List Share) (xs : List Shown) (nodes : List Digest) → ArePlacesBetween st (st + 2 ^ d) xs → length nodes ≡ length (outside d st xs)
    → Agree (opened d st xs nodes) (whole d (drop st ns) (drop st ss)) → AreListed ns ss xs × (nodes ≡ spans (leaf_digests ns ss) (outside d st xs))
unfolding opened outside
agreed zero st ns ss [] nodes of count a = (tt, same_one nodes (span (leaf_digests ns ss) st 0 ∷ []) no_digest count refl (a ∙ whole_is_span 0 st ns ss))
agreed zero st ns ss (s ∷ xs) nodes of count a =
    let at : s.from ≡ st = omega (arith, of.1, of.2) in
    let none : xs ≡ [] = no_more (s.from + 1) (st + 2 ^ 0) xs (omega (arith, of.1)) of.3 in (
      (subst (λ (k : ℕ). Agree s.part (whole 0 (drop k ns) (drop k ss))) (sym at) a, subst (λ (l : List Shown). AreListed ns ss l) (sym none) tt),
      no_node (leaf_digests ns ss) [] nodes refl count,
    )
agreed (suc d) st ns ss [] nodes of count a = (tt, same_one nodes (span (leaf_digests ns ss) st (suc d) ∷ []) no_digest count refl (a ∙ whole_is_span (suc d) st ns ss))
agreed (suc d) st ns ss (s ∷ ys) nodes of count a =
    let xs : List Shown = s ∷ ys in
    let m : ℕ = st + 2 ^ d in
    let i : ℕ = begun m xs in
    let lo : List (ℕ × ℕ) = outside d st (take i xs) in
    let ro : List (ℕ × ℕ) = outside d m (drop i xs) in
    let j : ℕ = length lo in
    let end : st + 2 ^ suc d ≡ m + 2 ^ d = omega (arith, pow-suc 2 d) in
    let one_place : is_interval (suc d) s ≡ false = single d s of.0 in
    let parts = places-halves st m (m + 2 ^ d) xs (omega arith) (subst (λ (k : ℕ). ArePlacesBetween st k xs) end of) in
    let counts = half_counts (is_interval (suc d) s) nodes lo ro one_place count in
    let joined : Part = join (opened d st (take i xs) (take j nodes)) (opened d m (drop i xs) (drop j nodes)) in
    let halved : whole (suc d) (drop st ns) (drop st ss) ≡ join (whole d (drop st ns) (drop st ss)) (whole d (drop m ns) (drop m ss)) = whole-halved d st ns ss in
    let both : Agree joined (join (whole d (drop st ns) (drop st ss)) (whole d (drop m ns) (drop m ss))) =
    subst₂ Agree (ap (λ (b : Bool). cond b s.part joined) one_place) halved a in
    let l = agreed d st ns ss (take i xs) (take j nodes) parts.0 counts.0 both.0 in
    let r = agreed d m ns ss (drop i xs) (drop j nodes) parts.1 counts.1 both.1 in (
      subst (λ (x : List Shown). AreListed ns ss x) (take-append-drop i xs) (each-append _ (take i xs) (drop i xs) l.0 r.0),
      sym (take-append-drop j nodes)
          ∙ halved_nodes (leaf_digests ns ss) (outside (suc d) st xs) lo ro (take j nodes) (drop j nodes) (ap (λ (b : Bool). cond b [] (lo ++ ro)) one_place) l.1 r.1,
    )

-- an opening under the root of a list: a clash is in hand, or what follows where both agree
pub listed_or : (d : ℕ) (xs : List Shown) (nodes : List Digest) (ns : List Namespace) (ss : List Share) (Fact : Type 0) → IsOpening d xs nodes → AreLeaves d ns ss
    → digest_of (opened d 0 xs nodes) ≡ root d ns ss → (Agree (opened d 0 xs nodes) (whole d ns ss) → Fact) → ClashOr (opened d 0 xs nodes) (whole d ns ss) Fact
listed_or d xs nodes ns ss Fact h g e fact =
    agree_or d (opened d 0 xs nodes) (whole d ns ss) Fact (opening-deep d xs nodes h) (depth-whole d ns ss)
    (opening-sized d xs nodes h) (sized-whole d ns ss g) (e ∙ sym (digest-whole d ns ss)) fact

-- the law of an opening under the root of a list
pub opening_law : (d : ℕ) (xs : List Shown) (nodes : List Digest) (ns : List Namespace) (ss : List Share) → IsOpening d xs nodes → AreLeaves d ns ss
    → digest_of (opened d 0 xs nodes) ≡ root d ns ss → ClashOr (opened d 0 xs nodes) (whole d ns ss) (Agree (opened d 0 xs nodes) (whole d ns ss))
opening_law d xs nodes ns ss h g e = listed_or d xs nodes ns ss (Agree (opened d 0 xs nodes) (whole d ns ss)) h g e (λ same. same)

-- of one that shows single places
pub places_law : (d : ℕ) (xs : List Shown) (nodes : List Digest) (ns : List Namespace) (ss : List Share) → IsOpening d xs nodes → ArePlacesBetween 0 (2 ^ d) xs → AreLeaves d ns ss
    → digest_of (opened d 0 xs nodes) ≡ root d ns ss
    → ClashOr (opened d 0 xs nodes) (whole d ns ss) (AreListed ns ss xs × (nodes ≡ spans (leaf_digests ns ss) (outside d 0 xs)))
places_law d xs nodes ns ss h of g e =
    let zero_first : 2 ^ d ≡ 0 + 2 ^ d = omega arith in
    listed_or d xs nodes ns ss (AreListed ns ss xs × (nodes ≡ spans (leaf_digests ns ss) (outside d 0 xs))) h g e
    (agreed d 0 ns ss xs nodes (subst (λ (k : ℕ). ArePlacesBetween 0 k xs) zero_first of) (eqb-true _ _ h.count))

-- the list's leaf at a place
pub leaf_listed : (pos : ℕ) (ns : List Namespace) (ss : List Share) (n : Namespace) (s : Share) → pos < length ns → pos < length ss
    → Agree (leaf n s) (whole 0 (drop pos ns) (drop pos ss)) → (slice_get ns pos ≡ Some n) × (slice_get ss pos ≡ Some s)
unfolding whole
leaf_listed zero (m ∷ ns) (t ∷ ss) n s h g a = (ap Some (sym a.0), ap Some (sym a.1))
leaf_listed (suc pos) (m ∷ ns) (t ∷ ss) n s h g a = leaf_listed pos ns ss n s (omega arith) (omega arith) a
leaf_listed pos [] ss n s h g a = absurd (omega arith)
leaf_listed pos (m ∷ ns) [] n s h g a = absurd (omega arith)

-- where what one leaf opens agrees with a list, the leaf and the nodes are the list's
pub leaf_agreed : (d pos : ℕ) (n : Namespace) (s : Share) (nodes : List Digest) (ns : List Namespace) (ss : List Share) → IsOpening d (one_leaf pos n s) nodes → pos < 2 ^ d → AreLeaves d ns ss
    → Agree (opened d 0 (one_leaf pos n s) nodes) (whole d ns ss)
    → (slice_get ns pos ≡ Some n) × (slice_get ss pos ≡ Some s) × (nodes ≡ spans (leaf_digests ns ss) (outside d 0 (one_leaf pos n s)))
leaf_agreed d pos n s nodes ns ss h lt g same =
    let listed = agreed d 0 ns ss (one_leaf pos n s) nodes (refl, omega arith, omega (arith, lt), tt) (eqb-true _ _ h.count) same in
    let here = leaf_listed pos ns ss n s (omega (arith, g.name_count)) (omega (arith, g.share_count)) listed.0.0 in
    (here.0, here.1, listed.1)

-- the law of an opening of one leaf
pub leaf_law : (d pos : ℕ) (n : Namespace) (s : Share) (nodes : List Digest) (ns : List Namespace) (ss : List Share) → IsOpening d (one_leaf pos n s) nodes → pos < 2 ^ d → AreLeaves d ns ss
    → digest_of (opened d 0 (one_leaf pos n s) nodes) ≡ root d ns ss
    → ClashOr (opened d 0 (one_leaf pos n s) nodes) (whole d ns ss)
    ((slice_get ns pos ≡ Some n) × (slice_get ss pos ≡ Some s) × (nodes ≡ spans (leaf_digests ns ss) (outside d 0 (one_leaf pos n s))))
leaf_law d pos n s nodes ns ss h lt g e =
    let xs : List Shown = one_leaf pos n s in
    listed_or d xs nodes ns ss ((slice_get ns pos ≡ Some n) × (slice_get ss pos ≡ Some s) × (nodes ≡ spans (leaf_digests ns ss) (outside d 0 xs))) h g e
    (leaf_agreed d pos n s nodes ns ss h lt g)

-- the law of two lists with one root
pub lists_law : (d : ℕ) (ns ms : List Namespace) (ss ts : List Share) → AreLeaves d ns ss → AreLeaves d ms ts → root d ns ss ≡ root d ms ts
    → ClashOr (whole d ns ss) (whole d ms ts) ((ns ≡ ms) × (ss ≡ ts))
lists_law d ns ms ss ts h g e =
    agree_or d (whole d ns ss) (whole d ms ts) ((ns ≡ ms) × (ss ≡ ts)) (depth-whole d ns ss) (depth-whole d ms ts)
    (sized-whole d ns ss h) (sized-whole d ms ts g) (digest-whole d ns ss ∙ e ∙ sym (digest-whole d ms ts)) (one_list d ns ms ss ts h g)

-- the law of two parts of which neither differs from a list's
pub symmetric_law : (d : ℕ) (p q : Part) (ns : List Namespace) (ss : List Share) → HasDepth d p → HasDepth d q → AreLeaves d ns ss → clash_at p (whole d ns ss) ≡ None → clash_at q (whole d ns ss) ≡ None
    → clash_at p q ≡ None
symmetric_law d p q ns ss dp dq g e f = fit_together d (whole d ns ss) p q (depth-whole d ns ss) dp dq (full-whole d ns ss g) e f
