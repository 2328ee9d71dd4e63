-- Neighboring subtrees that agree with a list's tree are the list's.
use Rattle.std.proofs.Common.{◌≡◌, ◌∙◌, ℕ, zero, suc, ◌+◌, ◌-◌, ◌%◌, ◌^◌, ◌≤◌, List, [], ◌∷◌, ◌++◌, length, take, drop, Bool, cond, refl, sym, ap, ap₂, subst, subst₂, inl, inr, arith}
use Rattle.std.specs.List.{AllByRecursion}
use Rattle.std.proofs.lemmas.Bool.{cases_Bool, eqb-true}
use Rattle.std.proofs.lemmas.List.{take-append-drop}
use Rattle.namespace_id.specs.declared.namespaces.Namespace.{Namespace}
use Rattle.namespace_id.specs.declared.shares.Share.{Share}
use Rattle.namespace_id.specs.declared.digests.Digest.{Digest}
use Rattle.namespace_id.specs.Digests.{no_digest}
use Rattle.namespace_id.specs.Sizes.{most_depth}
use Rattle.nmt_tree.specs.Digests.{leaf_digest, node_digest}
use Rattle.nmt_tree.specs.Roots.{halvings, root}
use Rattle.nmt_tree.specs.Levels.{leaf_digests, span}
use Rattle.nmt_tree.proofs.CountLemmas.{leaf_count-pos, leaf_count_power}
use Rattle.nmt_proofs.specs.Parts.{Part, given, leaf, join, digest_of}
use Rattle.nmt_proofs.specs.Openings.{Shown, begun, is_interval, outside, opened, intervals_from}
use Rattle.nmt_proofs.specs.Clashes.{Agree, ClashOr, whole, AreLeaves, IsOpening}
use Rattle.nmt_proofs.specs.Places.{AreAligned}
use Rattle.nmt_proofs.specs.Making.{spans, interval_digests}
use Rattle.nmt_proofs.proofs.Parts.ListLemmas.{each-append, same_one}
use Rattle.nmt_proofs.proofs.Parts.WholeLemmas.{whole-halved, whole_is_span}
use Rattle.nmt_proofs.proofs.Parts.ShownLemmas.{half_counts}
use Rattle.nmt_proofs.proofs.Agreement.PutLemmas.{halved_nodes, no_node, left_aligned, right_aligned}
use Rattle.nmt_proofs.proofs.Agreement.ListedLemmas.{listed_or}
use Rattle.nmt_proofs.proofs.Sets.TileLemmas.{IsTiled, IsTiledIn, TiledHalves, tiled-le, tiled-halves, IsOf, whole_size, zero_mod}

-- parts that agree have one digest
pub agree-digest : (p q : Part) → Agree p q → digest_of p ≡ digest_of q
agree-digest (given d) q h = h
agree-digest (leaf n s) (given e) h = h
agree-digest (leaf n s) (leaf m t) h = ap₂ leaf_digest h.0 h.1
agree-digest (leaf n s) (join u v) h = elim h [ ]
agree-digest (join l r) (given e) h = h
agree-digest (join l r) (leaf m t) h = elim h [ ]
agree-digest (join l r) (join u v) h = ap₂ node_digest (agree-digest l u h.0) (agree-digest r v h.1)

-- ---- subtrees side by side, whatever their digests

-- nothing is asked of a subtree but its place
abbrev pub IsAny : Shown → Type 0
IsAny s = Unit {0}

-- none begins at the end
none_left : (from high : ℕ) (ss : List Shown) → IsTiled IsAny from high ss → high ≤ from → ss ≡ []
none_left from high [] h le = refl
none_left from high (s ∷ ss) h le = absurd (omega (arith, tiled-le IsAny (from + s.size) high ss h.4, le, leaf_count-pos s.size h.1))

-- ---- what agrees with a list

-- the subtree that is the whole interval is the list's
whole_of : (d st from : ℕ) (ns : List Namespace) (ss : List Share) (s : Shown) (xs : List Shown) → d ≤ most_depth → st ≤ from → IsTiled IsAny from (st + 2 ^ d) (s ∷ xs) → s.size ≡ 2 ^ d
    → Agree s.part (whole d (drop st ns) (drop st ss)) → AllByRecursion (IsOf (leaf_digests ns ss)) (s ∷ xs)
whole_of d st from ns ss s xs deep low h e a =
    let within : from + s.size ≤ st + 2 ^ d = tiled-le IsAny (from + s.size) (st + 2 ^ d) xs h.4 in
    let place : st ≡ s.from = omega (arith, low, within, e, h.0) in
    let none : xs ≡ [] = none_left (from + s.size) (st + 2 ^ d) xs h.4 (omega (arith, low, e)) in
    let depth : d ≡ halvings s.size = sym (ap halvings e ∙ (leaf_count_power d deep).1) in (
      agree-digest s.part (whole d (drop st ns) (drop st ss)) a ∙ whole_is_span d st ns ss ∙ (λ i. span (leaf_digests ns ss) (place i) (depth i)),
      subst (AllByRecursion (IsOf (leaf_digests ns ss))) (sym none) tt,
    )

-- where what is opened agrees with a list, each subtree is the list's, and so are the nodes
pub agreed_tiles : (d st : ℕ) (ns : List Namespace) (ss : List Share) (xs : List Shown) (nodes : List Digest) → d ≤ most_depth → st % 2 ^ d ≡ 0 → IsTiledIn IsAny st (st + 2 ^ d) xs
    → length nodes ≡ length (outside d st xs)
    → Agree (opened d st xs nodes) (whole d (drop st ns) (drop st ss))
    → AllByRecursion (IsOf (leaf_digests ns ss)) xs × (nodes ≡ spans (leaf_digests ns ss) (outside d st xs))
unfolding opened outside
agreed_tiles zero st ns ss [] nodes deep aligned of count a = (tt, same_one nodes (span (leaf_digests ns ss) st 0 ∷ []) no_digest count refl (a ∙ whole_is_span 0 st ns ss))
agreed_tiles zero st ns ss (s ∷ xs) nodes deep aligned of count a =
    let within = tiled-le IsAny (of.from + s.size) (st + 2 ^ 0) xs of.tiled.4 in
    let one : s.size ≡ 2 ^ 0 = omega (arith, within, of.behind_low, leaf_count-pos s.size of.tiled.1) in
    (whole_of 0 st of.from ns ss s xs (omega arith) of.behind_low of.tiled one a, no_node (leaf_digests ns ss) [] nodes refl count)
agreed_tiles (suc d) st ns ss [] nodes deep aligned of count a = (tt, same_one nodes (span (leaf_digests ns ss) st (suc d) ∷ []) no_digest count refl (a ∙ whole_is_span (suc d) st ns ss))
agreed_tiles (suc d) st ns ss (s ∷ ys) nodes deep aligned of count a =
    let xs : List Shown = s ∷ ys in
    let m : ℕ = st + 2 ^ d in
    let i : ℕ = begun m xs in
    let lo : List (ℕ × ℕ) = outside d st (take i xs) in
    let ro : List (ℕ × ℕ) = outside d m (drop i xs) in
    let j : ℕ = length lo in
    let joined : Part = join (opened d st (take i xs) (take j nodes)) (opened d m (drop i xs) (drop j nodes)) in
    let leaves : List Digest = leaf_digests ns ss in
    elim (cases_Bool (is_interval (suc d) s)) [
      | inl t ↦
          let here : Agree s.part (whole (suc d) (drop st ns) (drop st ss)) = subst (λ (b : Bool). Agree (cond b s.part joined) (whole (suc d) (drop st ns) (drop st ss))) t a in (
            whole_of (suc d) st of.from ns ss s ys deep of.behind_low of.tiled (whole_size d s t) here,
            no_node leaves (outside (suc d) st xs) nodes (ap (λ (b : Bool). cond b [] (lo ++ ro)) t) count,
          )
      | inr f ↦
          let halves : TiledHalves IsAny d st xs = tiled-halves IsAny d st of.from s ys deep aligned of.behind_low of.tiled f in
          let low : suc d - 1 ≡ d = omega arith in
          let al : st % 2 ^ d ≡ 0 = ap (λ (n : ℕ). st % 2 ^ n) (sym low) ∙ left_aligned (suc d) st (omega arith) aligned in
          let ar : m % 2 ^ d ≡ 0 = ap (λ (n : ℕ). m % 2 ^ n) (sym low) ∙ right_aligned (suc d) st m (omega arith) aligned (ap (λ (n : ℕ). st + 2 ^ n) (sym low)) in
          let counts = half_counts (is_interval (suc d) s) nodes lo ro f count in
          let halved : whole (suc d) (drop st ns) (drop st ss) ≡ join (whole d (drop st ns) (drop st ss)) (whole d (drop m ns) (drop m ss)) = whole-halved d st ns ss in
          let both : Agree joined (join (whole d (drop st ns) (drop st ss)) (whole d (drop m ns) (drop m ss))) =
          subst₂ Agree (ap (λ (b : Bool). cond b s.part joined) f) halved a in
          let l = agreed_tiles d st ns ss (take i xs) (take j nodes) (omega (arith, deep)) al halves.left counts.0 both.0 in
          let r = agreed_tiles d m ns ss (drop i xs) (drop j nodes) (omega (arith, deep)) ar halves.right counts.1 both.1 in (
            subst (AllByRecursion (IsOf leaves)) (take-append-drop i xs) (each-append _ (take i xs) (drop i xs) l.0 r.0),
            sym (take-append-drop j nodes)
                ∙ halved_nodes leaves (outside (suc d) st xs) lo ro (take j nodes) (drop j nodes) (ap (λ (b : Bool). cond b [] (lo ++ ro)) f) l.1 r.1,
          )
    ]

-- ---- the law

-- neighboring intervals are laid side by side
pub intervals_side_by_side : (from high : ℕ) (sizes : List ℕ) (digests : List Digest) → length digests ≡ length sizes → AreAligned from high sizes → IsTiled IsAny from high (intervals_from from sizes digests)
unfolding intervals_from
intervals_side_by_side from high [] digests e h = h
intervals_side_by_side from high (size ∷ sizes) [] e h = absurd (omega (arith, e))
intervals_side_by_side from high (size ∷ sizes) (digest ∷ digests) e h = (refl, h.0, h.1, tt, intervals_side_by_side (from + size) high sizes digests (omega (arith, e)) h.2)

-- where each is the list's, so are their digests
intervals_of : (leaves : List Digest) (from : ℕ) (sizes : List ℕ) (digests : List Digest) → length digests ≡ length sizes
    → AllByRecursion (IsOf leaves) (intervals_from from sizes digests) → digests ≡ interval_digests leaves from sizes
unfolding intervals_from interval_digests
intervals_of leaves from [] [] e h = refl
intervals_of leaves from [] (digest ∷ digests) e h = absurd (omega (arith, e))
intervals_of leaves from (size ∷ sizes) [] e h = absurd (omega (arith, e))
intervals_of leaves from (size ∷ sizes) (digest ∷ digests) e h = ap₂ (λ (x : Digest) (l : List Digest). x ∷ l) h.0 (intervals_of leaves (from + size) sizes digests (omega (arith, e)) h.1)

-- subtrees that agree with a list are the list's, and so are their nodes
pub subtrees_agreed : (d from : ℕ) (sizes : List ℕ) (digests nodes : List Digest) (ns : List Namespace) (ss : List Share) → d ≤ most_depth
    → IsOpening d (intervals_from from sizes digests) nodes → AreAligned from (2 ^ d) sizes → length digests ≡ length sizes
    → Agree (opened d 0 (intervals_from from sizes digests) nodes) (whole d ns ss)
    → (digests ≡ interval_digests (leaf_digests ns ss) from sizes) × (nodes ≡ spans (leaf_digests ns ss) (outside d 0 (intervals_from from sizes digests)))
subtrees_agreed d from sizes digests nodes ns ss deep h aligned count same =
    let xs : List Shown = intervals_from from sizes digests in
    let zero_first : 2 ^ d ≡ 0 + 2 ^ d = omega arith in
    let of : IsTiledIn IsAny 0 (0 + 2 ^ d) xs =
    record { from = from; behind_low = omega arith; tiled = subst (λ (n : ℕ). IsTiled IsAny from n xs) zero_first (intervals_side_by_side from (2 ^ d) sizes digests count aligned) } in
    let both = agreed_tiles d 0 ns ss xs nodes deep (zero_mod (2 ^ d)) of (eqb-true _ _ h.count) same in
    (intervals_of (leaf_digests ns ss) from sizes digests count both.0, both.1)

-- the law of subtrees under the root of a list
pub subtrees_law : (d from : ℕ) (sizes : List ℕ) (digests nodes : List Digest) (ns : List Namespace) (ss : List Share) → d ≤ most_depth
    → IsOpening d (intervals_from from sizes digests) nodes → AreAligned from (2 ^ d) sizes → length digests ≡ length sizes → AreLeaves d ns ss
    → digest_of (opened d 0 (intervals_from from sizes digests) nodes) ≡ root d ns ss
    → ClashOr (opened d 0 (intervals_from from sizes digests) nodes) (whole d ns ss)
    ((digests ≡ interval_digests (leaf_digests ns ss) from sizes) × (nodes ≡ spans (leaf_digests ns ss) (outside d 0 (intervals_from from sizes digests))))
subtrees_law d from sizes digests nodes ns ss deep h aligned count g e =
    listed_or d (intervals_from from sizes digests) nodes ns ss _ h g e (subtrees_agreed d from sizes digests nodes ns ss deep h aligned count)
