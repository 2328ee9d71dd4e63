-- What an interval is, by what is known of it.
use Rattle.std.proofs.Common.{◌≡◌, ◌∙◌, ℕ, zero, suc, ◌+◌, ◌-◌, ◌/◌, ◌^◌, ◌<◌, ◌≤◌, List, [], ◌∷◌, length, take, drop, get_or, true, false, ltb, refl, sym, ap, ap₂, subst, arith, length-drop, Bor}
use Rattle.std.proofs.lemmas.Bool.{lt-ltb, le-ltb}
use Rattle.std.proofs.lemmas.List.{length-take-le}
use Rattle.namespace_id.specs.declared.namespaces.Namespace.{Namespace}
use Rattle.namespace_id.specs.declared.shares.Share.{Share}
use Rattle.namespace_id.specs.declared.digests.Digest.{Digest}
use Rattle.namespace_id.proofs.HalfLemmas.{half_power}
use Rattle.nmt_proofs.specs.Parts.{given, leaf, join}
use Rattle.namespace_id.specs.Digests.{no_digest}
use Rattle.nmt_proofs.specs.Openings.{opened, one_leaf}
use Rattle.nmt_proofs.specs.Clashes.{whole}
use Rattle.nmt_proofs.proofs.Parts.SingleLemmas.{opened_left, opened_right}
use Rattle.hash_clash.specs.declared.openings.Opening.{Opening}
use Rattle.hash_clash.specs.declared.sides.Side.{Side}
use Rattle.hash_clash.specs.declared.sides.Side.TheVariants.{Given, Opened, Listed}
use Rattle.hash_clash.specs.Sides.{part_of, IsSide, IsJoined}

-- one place that is opened is a leaf
pub leaf_opened : (depth start pos : ℕ) (side : Side) (o : Bor Opening) (ns : Bor (List Digest)) → side ≡ Opened pos o ns → depth ≡ 0
    → part_of depth start side ≡ leaf o.now.name o.now.share
unfolding opened
leaf_opened depth start pos side o ns is none = ap₂ (λ (k : ℕ) (s : Side). part_of k start s) none is

-- the part of one leaf is that leaf
only : (names : List Namespace) (shares : List Share) (n : Namespace) (s : Share) → length names ≡ 1 → length shares ≡ 1 → whole 0 names shares ≡ leaf (get_or names 0 n) (get_or shares 0 s)
unfolding whole
only [] shares n s h g = absurd (omega (arith, h))
only (x ∷ names) [] n s h g = absurd (omega (arith, g))
only (x ∷ names) (y ∷ shares) n s h g = refl

-- and one place of a list
pub leaf_listed : (depth start : ℕ) (side : Side) (ns : Bor (List Namespace)) (ss : Bor (List Share)) (n : Namespace) (s : Share) → side ≡ Listed ns ss → IsSide depth side → depth ≡ 0
    → part_of depth start side ≡ leaf (get_or ns.now 0 n) (get_or ss.now 0 s)
leaf_listed depth start side ns ss n s is fits none =
    let counts : IsSide 0 (Listed ns ss) = subst (IsSide 0) is (subst (λ (k : ℕ). IsSide k side) none fits) in
    ap₂ (λ (k : ℕ) (x : Side). part_of k start x) none is ∙ only ns.now ss.now n s counts.0 counts.1

-- a place in the left half
pub left_joined : (depth start pos m : ℕ) (side : Side) (o : Bor Opening) (ns ls rs : Bor (List Digest)) (g : Bor Digest) → side ≡ Opened pos o ns → IsSide depth side → (depth ≡ 0 → ⊥)
    → m ≡ 2 ^ (depth - 1) → pos < start + m → ls.now ≡ take (length ns.now - 1) ns.now → rs.now ≡ drop (length ns.now - 1) ns.now → g.now ≡ get_or rs.now 0 no_digest
    → IsJoined depth start side (Opened pos o ls) (Given g)
left_joined zero start pos m side o ns ls rs g is fits several half lt left right first = absurd (several refl)
left_joined (suc d) start pos m side o ns ls rs g is fits several half lt left right first =
    let low : suc d - 1 ≡ d = omega arith in
    let count : length ns.now ≡ suc d = subst (IsSide (suc d)) is fits in
    let cut : length ns.now - 1 ≡ d = omega (arith, count) in
    let size : m ≡ 2 ^ d = half ∙ ap (λ (k : ℕ). 2 ^ k) low in
    let in_left : ltb pos (start + 2 ^ d) ≡ true = lt-ltb pos (start + 2 ^ d) (omega (arith, lt, size)) in
    let front : take d ns.now ≡ ls.now = ap (λ (k : ℕ). take k ns.now) (sym cut) ∙ sym left in
    let back : drop d ns.now ≡ rs.now = ap (λ (k : ℕ). drop k ns.now) (sym cut) ∙ sym right in
    record {
      several = omega arith;
      part =
          ap (part_of (suc d) start) is
          ∙ opened_left d start pos (leaf o.now.name o.now.share) ns.now in_left
          ∙ ap₂ join (ap₂ (λ (k : ℕ) (l : List Digest). opened k start (one_leaf pos o.now.name o.now.share) l) (sym low) front)
          (ap (λ (l : List Digest). given (get_or l 0 no_digest)) back ∙ ap given (sym first));
      left_fits = ap length (sym front) ∙ length-take-le d ns.now (omega (arith, count)) ∙ sym low;
      right_fits = tt;
    }

-- a place in the right half
pub right_joined : (depth start pos m : ℕ) (side : Side) (o : Bor Opening) (ns ls rs : Bor (List Digest)) (g : Bor Digest) → side ≡ Opened pos o ns → IsSide depth side → (depth ≡ 0 → ⊥)
    → m ≡ 2 ^ (depth - 1) → start + m ≤ pos → ls.now ≡ take 1 ns.now → rs.now ≡ drop 1 ns.now → g.now ≡ get_or ls.now 0 no_digest
    → IsJoined depth start side (Given g) (Opened pos o rs)
right_joined zero start pos m side o ns ls rs g is fits several half le left right first = absurd (several refl)
right_joined (suc d) start pos m side o ns ls rs g is fits several half le left right first =
    let low : suc d - 1 ≡ d = omega arith in
    let count : length ns.now ≡ suc d = subst (IsSide (suc d)) is fits in
    let size : m ≡ 2 ^ d = half ∙ ap (λ (k : ℕ). 2 ^ k) low in
    let in_right : ltb pos (start + 2 ^ d) ≡ false = le-ltb pos (start + 2 ^ d) (omega (arith, le, size)) in
    record {
      several = omega arith;
      part =
          ap (part_of (suc d) start) is
          ∙ opened_right d start pos (leaf o.now.name o.now.share) ns.now in_right
          ∙ ap₂ join (ap (λ (l : List Digest). given (get_or l 0 no_digest)) (sym left) ∙ ap given (sym first))
          (ap₂ (λ (k : ℕ) (l : List Digest). opened k (start + 2 ^ k) (one_leaf pos o.now.name o.now.share) l) (sym low) (sym right));
      left_fits = tt;
      right_fits = ap length right ∙ omega (arith, count, length-drop 1 ns.now);
    }

-- the part of a list, by its halves
halved : (k : ℕ) (names : List Namespace) (shares : List Share)
    → whole (suc k) names shares ≡ join (whole k (take (2 ^ k) names) (take (2 ^ k) shares)) (whole k (drop (2 ^ k) names) (drop (2 ^ k) shares))
unfolding whole
halved k names shares = refl

-- the halves of a list
pub list_joined : (depth start : ℕ) (side : Side) (ns ln rn : Bor (List Namespace)) (ss ls rs : Bor (List Share)) → side ≡ Listed ns ss → IsSide depth side → (depth ≡ 0 → ⊥)
    → ln.now ≡ take (length ns.now / 2) ns.now → rn.now ≡ drop (length ns.now / 2) ns.now
    → ls.now ≡ take (length ns.now / 2) ss.now → rs.now ≡ drop (length ns.now / 2) ss.now
    → IsJoined depth start side (Listed ln ls) (Listed rn rs)
list_joined zero start side ns ln rn ss ls rs is fits several el er fl fr = absurd (several refl)
list_joined (suc d) start side ns ln rn ss ls rs is fits several el er fl fr =
    let low : d ≡ suc d - 1 = omega arith in
    let counts : IsSide (suc d) (Listed ns ss) = subst (IsSide (suc d)) is fits in
    let half = half_power (length ns.now) d counts.0 in
    let half' = half_power (length ss.now) d counts.1 in
    let ln_is : take (2 ^ d) ns.now ≡ ln.now = ap (λ (k : ℕ). take k ns.now) (sym half.0) ∙ sym el in
    let rn_is : drop (2 ^ d) ns.now ≡ rn.now = ap (λ (k : ℕ). drop k ns.now) (sym half.0) ∙ sym er in
    let ls_is : take (2 ^ d) ss.now ≡ ls.now = ap (λ (k : ℕ). take k ss.now) (sym half.0) ∙ sym fl in
    let rs_is : drop (2 ^ d) ss.now ≡ rs.now = ap (λ (k : ℕ). drop k ss.now) (sym half.0) ∙ sym fr in
    let Joined : ℕ → Type 0 = λ k. (whole (suc d) ns.now ss.now ≡ join (whole k ln.now ls.now) (whole k rn.now rs.now)) × IsSide k (Listed ln ls) × IsSide k (Listed rn rs) in
    let halves : Joined d = (
      halved d ns.now ss.now ∙ ap₂ join (ap₂ (whole d) ln_is ls_is) (ap₂ (whole d) rn_is rs_is),
      (
        ap length (sym ln_is) ∙ length-take-le (2 ^ d) ns.now (omega (arith, half.0, half.1)),
        ap length (sym ls_is) ∙ length-take-le (2 ^ d) ss.now (omega (arith, half'.0, half'.1)),
      ),
      (
        ap length (sym rn_is) ∙ omega (arith, half.0, half.1, length-drop (2 ^ d) ns.now),
        ap length (sym rs_is) ∙ omega (arith, half'.0, half'.1, length-drop (2 ^ d) ss.now),
      ),
    ) in
    let there : Joined (suc d - 1) = subst Joined low halves in
    record {
      several = omega arith;
      part = ap (part_of (suc d) start) is ∙ there.0;
      left_fits = there.1;
      right_fits = there.2;
    }
