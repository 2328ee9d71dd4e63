-- The digests of the intervals outside open what is shown.
use Rattle.std.proofs.Common.{◌≡◌, ◌∙◌, ℕ, zero, suc, ◌+◌, ◌*◌, ◌^◌, ◌<◌, List, [], ◌∷◌, ◌++◌, length, take, drop, get_or, Bool, true, false, cond, ◌&&◌, refl, sym, ap, ap₂, subst, arith}
use Rattle.std.proofs.lemmas.List.{map-append, length-map}
use Rattle.std.specs.List.{AllByRecursion}
use Rattle.std.proofs.lemmas.Bool.{eq-eqb}
use Rattle.std.proofs.lemmas.Slice.Eq.{bytes_eq-Decides}
use Rattle.std.proofs.Math.Nat.{pow-suc}
use Rattle.namespace_id.specs.declared.digests.Digest.{Digest}
use Rattle.nmt_tree.specs.Digests.{node_digest, is_ordered_join}
use Rattle.nmt_tree.specs.Levels.{span, HasOrderedJoins}
use Rattle.namespace_id.proofs.StringLemmas.{front, behind}
use Rattle.nmt_proofs.specs.Parts.{Part, join, digest_of, is_in_order}
use Rattle.namespace_id.specs.Digests.{no_digest}
use Rattle.nmt_proofs.specs.Openings.{Shown, begun, is_interval, outside, opened, Opens}
use Rattle.nmt_proofs.specs.Making.{spans, AreAtLeaves}
use Rattle.nmt_proofs.specs.Clashes.{ArePlacesBetween}
use Rattle.nmt_proofs.proofs.Parts.ListLemmas.{each-take, each-drop}
use Rattle.nmt_proofs.proofs.Parts.BegunLemmas.{places-halves}
use Rattle.nmt_proofs.proofs.Parts.SingleLemmas.{one_place, single}
use Rattle.nmt_proofs.proofs.Parts.ShadowLemmas.{outside-parts}

-- what is shown has the digest of the leaf at its place, and is in order
abbrev pub IsAtLeaf : List Digest → Shown → Type 0
IsAtLeaf leaves s = (digest_of s.part ≡ get_or leaves s.from no_digest) × (is_in_order s.part ≡ true)

-- shown parts at leaves are single places, and each is at its leaf
at_leaves : (leaves : List Digest) (low high : ℕ) (ss : List Shown) → AreAtLeaves leaves low high ss → ArePlacesBetween low high ss × AllByRecursion (IsAtLeaf leaves) ss
unfolding AreAtLeaves
at_leaves leaves low high [] of = (tt, tt)
at_leaves leaves low high (s ∷ ss) of =
    let rest = at_leaves leaves (s.from + 1) high ss of.5 in
    ((of.0, of.1, of.2, rest.0), ((of.3, of.4), rest.1))

-- a part with the digest over its leaves, in order
pub record IsMade (leaves : List Digest) (depth start : ℕ) (p : Part) : Type 0 where
  pub digest : digest_of p ≡ span leaves start depth
  pub order : is_in_order p ≡ true

-- three tests hold together
pub and_true : (a b c : Bool) → a ≡ true → b ≡ true → c ≡ true → (a && b && c) ≡ true
and_true a b c ha hb hc = (λ i. ha i && hb i && hc i)

-- the intervals outside and what is shown make the part over all leaves
made : (leaves : List Digest) (d st : ℕ) (ss : List Shown) → ArePlacesBetween st (st + 2 ^ d) ss → AllByRecursion (IsAtLeaf leaves) ss → HasOrderedJoins leaves st d
    → IsMade leaves d st (opened d st ss (spans leaves (outside d st ss)))
unfolding opened outside HasOrderedJoins span
made leaves zero st [] of each j = record { digest = refl; order = refl }
made leaves zero st (s ∷ ss) of each j =
    let at : s.from ≡ st = omega (arith, of.1, of.2) in
    record { digest = each.0.0 ∙ ap (λ (k : ℕ). get_or leaves k no_digest) at; order = each.0.1 }
made leaves (suc d) st [] of each j = record { digest = refl; order = refl }
made leaves (suc d) st (s ∷ ss) of each j =
    let xs : List Shown = s ∷ ss in
    let m : ℕ = st + 2 ^ d in
    let i : ℕ = begun m xs in
    let lo : List (ℕ × ℕ) = outside d st (take i xs) in
    let ro : List (ℕ × ℕ) = outside d m (drop i xs) in
    let single_place : is_interval (suc d) s ≡ false = single d s of.0 in
    let p : 2 ^ suc d ≡ 2 ^ d * 2 = pow-suc 2 d in
    let end : st + 2 ^ suc d ≡ m + 2 ^ d = omega (arith, p) in
    let parts = places-halves st m (m + 2 ^ d) xs (omega arith) (subst (λ (k : ℕ). ArePlacesBetween st k xs) end of) in
    let nodes : spans leaves (cond (is_interval (suc d) s) [] (lo ++ ro)) ≡ spans leaves lo ++ spans leaves ro =
    ap (λ (b : Bool). spans leaves (cond b [] (lo ++ ro))) single_place ∙ map-append (λ (x : ℕ × ℕ). span leaves x.0 x.1) lo ro in
    let count : length (spans leaves lo) ≡ length lo = length-map lo (λ (x : ℕ × ℕ). span leaves x.0 x.1) in
    let l : IsMade leaves d st (opened d st (take i xs) (spans leaves lo)) = made leaves d st (take i xs) parts.0 (each-take _ i xs each) j.0 in
    let r : IsMade leaves d m (opened d m (drop i xs) (spans leaves ro)) = made leaves d m (drop i xs) parts.1 (each-drop _ i xs each) j.1 in
    let Of : List Digest → Part = λ ns. cond (is_interval (suc d) s) s.part (join (opened d st (take i xs) (take (length lo) ns)) (opened d m (drop i xs) (drop (length lo) ns))) in
    let whole : Of (spans leaves (cond (is_interval (suc d) s) [] (lo ++ ro))) ≡ join (opened d st (take i xs) (spans leaves lo)) (opened d m (drop i xs) (spans leaves ro)) =
    ap Of nodes
    ∙ ap (λ (b : Bool). cond b s.part (join (opened d st (take i xs) (take (length lo) (spans leaves lo ++ spans leaves ro))) (opened d m (drop i xs) (drop (length lo) (spans leaves lo ++ spans leaves ro))))) single_place
    ∙ ap₂ (λ (x y : List Digest). join (opened d st (take i xs) x) (opened d m (drop i xs) y)) (front (spans leaves lo) (spans leaves ro) (length lo) count) (behind (spans leaves lo) (spans leaves ro) (length lo) count) in
    record {
      digest = ap digest_of whole ∙ ap₂ node_digest l.digest r.digest;
      order = ap is_in_order whole ∙ and_true _ _ _ l.order r.order (ap₂ (λ (x y : Digest). is_ordered_join x y) l.digest r.digest ∙ j.2);
    }

-- what is made opens
pub made_opens : (depth : ℕ) (leaves : List Digest) (ss : List Shown) → AreAtLeaves leaves 0 (2 ^ depth) ss → HasOrderedJoins leaves 0 depth
    → Opens depth ss (spans leaves (outside depth 0 ss)) (span leaves 0 depth)
made_opens depth leaves ss of j =
    let zero_first : 2 ^ depth ≡ 0 + 2 ^ depth = omega arith in
    let at = at_leaves leaves 0 (2 ^ depth) ss of in
    let m : IsMade leaves depth 0 (opened depth 0 ss (spans leaves (outside depth 0 ss))) = made leaves depth 0 ss (subst (λ (k : ℕ). ArePlacesBetween 0 k ss) zero_first at.0) at.1 j in
    record {
      count = eq-eqb _ _ (length-map (outside depth 0 ss) (λ (x : ℕ × ℕ). span leaves x.0 x.1));
      order = m.order;
      value = (bytes_eq-Decides _ _).1 (ap (λ (x : Digest). x.0) m.digest);
    }

-- what is made for one place opens every part with the digest of the leaf there
pub one_opens : (d pos : ℕ) (leaves nodes : List Digest) (p q : Part) → pos < 2 ^ d → digest_of p ≡ get_or leaves pos no_digest → is_in_order p ≡ true
    → HasOrderedJoins leaves 0 d → nodes ≡ spans leaves (outside d 0 (one_place pos q)) → Opens d (one_place pos p) nodes (span leaves 0 d)
unfolding AreAtLeaves
one_opens d pos leaves nodes p q lt e o j en =
    let of : AreAtLeaves leaves 0 (2 ^ d) (one_place pos p) = (refl, omega arith, lt, e, o, tt) in
    subst (λ (ns : List Digest). Opens d (one_place pos p) ns (span leaves 0 d))
    (sym (en ∙ ap (spans leaves) (outside-parts (λ x. q) d 0 (one_place pos p))))
    (made_opens d leaves (one_place pos p) of j)
