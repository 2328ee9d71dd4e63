-- Only the digests of shown parts count.
use Rattle.std.proofs.Common.{◌≡◌, ℕ, zero, suc, ◌+◌, ◌^◌, List, [], ◌∷◌, ◌++◌, Bool, true, false, cond, ◌&&◌, ltb, refl, sym, ap, ap₂, ◌∙◌, length, map, take, drop}
use Rattle.std.specs.List.{AllByRecursion}
use Rattle.std.proofs.lemmas.List.{take-map, drop-map}
use Rattle.namespace_id.specs.declared.digests.Digest.{Digest}
use Rattle.nmt_tree.specs.Digests.{node_digest, is_ordered_join}
use Rattle.nmt_proofs.specs.Parts.{Part, given, join, digest_of, is_in_order}
use Rattle.nmt_proofs.specs.Openings.{Shown, begun, is_interval, outside, opened, shadow, shadow_of}
use Rattle.nmt_proofs.proofs.Parts.ListLemmas.{each-take, each-drop}

-- every shown part is in order
abbrev pub AreInOrder : List Shown → Type 0
AreInOrder ss = AllByRecursion (λ s. is_in_order s.part ≡ true) ss

-- a shown part with another part in its place
abbrev pub with_part : (Part → Part) → Shown → Shown
with_part f s = record { from = s.from; size = s.size; part = f s.part }

-- how many begin before a place doesn't depend on the parts
begun-parts : (f : Part → Part) (m : ℕ) (ss : List Shown) → begun m (map (with_part f) ss) ≡ begun m ss
unfolding begun
begun-parts f m [] = refl
begun-parts f m (s ∷ ss) = ap (λ n. cond (ltb s.from m) (suc n) 0) (begun-parts f m ss)

-- nor do the intervals outside
pub outside-parts : (f : Part → Part) (d st : ℕ) (ss : List Shown) → outside d st (map (with_part f) ss) ≡ outside d st ss
unfolding outside is_interval
outside-parts f zero st [] = refl
outside-parts f zero st (s ∷ ss) = refl
outside-parts f (suc d) st [] = refl
outside-parts f (suc d) st (s ∷ ss) =
    let xs : List Shown = s ∷ ss in
    let ys : List Shown = map (with_part f) xs in
    let m : ℕ = st + 2 ^ d in
    let k : ℕ = begun m xs in
    let e : begun m ys ≡ k = begun-parts f m xs in
    let l : outside d st (take (begun m ys) ys) ≡ outside d st (take k xs) =
    ap (λ n. outside d st (take n ys)) e ∙ ap (outside d st) (take-map (with_part f) k xs) ∙ outside-parts f d st (take k xs) in
    let r : outside d m (drop (begun m ys) ys) ≡ outside d m (drop k xs) =
    ap (λ n. outside d m (drop n ys)) e ∙ ap (outside d m) (drop-map (with_part f) k xs) ∙ outside-parts f d m (drop k xs) in
    ap₂ (λ (x y : List (ℕ × ℕ)). cond (is_interval (suc d) s) [] (x ++ y)) l r

-- one digest, and in order alike
pub record Alike (p q : Part) : Type 0 where
  pub digest : digest_of p ≡ digest_of q
  pub order : is_in_order p ≡ is_in_order q

-- joins of parts that are alike are alike
alike_join : (l r a b : Part) → Alike l a → Alike r b → Alike (join l r) (join a b)
alike_join l r a b h k = record {
  digest = ap₂ node_digest h.digest k.digest;
  order = (λ i. h.order i && k.order i && is_ordered_join (h.digest i) (k.digest i));
}

-- so are choices between them
alike_choice : (b : Bool) (p q r s : Part) → Alike p r → Alike q s → Alike (cond b p q) (cond b r s)
alike_choice true p q r s h k = h
alike_choice false p q r s h k = k

-- a part that is the same is alike
alike_same : (p q r : Part) → p ≡ q → Alike q r → Alike p r
alike_same p q r e h = record { digest = ap digest_of e ∙ h.digest; order = ap is_in_order e ∙ h.order }

-- a part of which only the digest is kept
abbrev pub given_alone : Part → Part
given_alone p = given (digest_of p)

-- what is opened of the digests alone is alike
pub alike-shadow : (d st : ℕ) (ss : List Shown) (ns : List Digest) → AreInOrder ss → Alike (opened d st (shadow ss) ns) (opened d st ss ns)
unfolding opened is_interval
alike-shadow zero st [] ns h = record { digest = refl; order = refl }
alike-shadow zero st (s ∷ ss) ns h = record { digest = refl; order = sym h.0 }
alike-shadow (suc d) st [] ns h = record { digest = refl; order = refl }
alike-shadow (suc d) st (s ∷ ss) ns h =
    let xs : List Shown = s ∷ ss in
    let m : ℕ = st + 2 ^ d in
    let k : ℕ = begun m xs in
    let k' : ℕ = begun m (shadow xs) in
    let e : k' ≡ k = begun-parts given_alone m xs in
    let front : take k' (shadow xs) ≡ shadow (take k xs) = ap (λ n. take n (shadow xs)) e ∙ take-map shadow_of k xs in
    let back : drop k' (shadow xs) ≡ shadow (drop k xs) = ap (λ n. drop n (shadow xs)) e ∙ drop-map shadow_of k xs in
    let j : ℕ = length (outside d st (take k xs)) in
    let j' : ℕ = length (outside d st (take k' (shadow xs))) in
    let c : j' ≡ j = ap (λ (l : List Shown). length (outside d st l)) front ∙ ap length (outside-parts given_alone d st (take k xs)) in
    let l : Alike (opened d st (take k' (shadow xs)) (take j' ns)) (opened d st (take k xs) (take j ns)) =
    alike_same _ _ _ (ap₂ (λ (x : List Shown) (n : ℕ). opened d st x (take n ns)) front c) (alike-shadow d st (take k xs) (take j ns) (each-take _ k xs h)) in
    let r : Alike (opened d m (drop k' (shadow xs)) (drop j' ns)) (opened d m (drop k xs) (drop j ns)) =
    alike_same _ _ _ (ap₂ (λ (x : List Shown) (n : ℕ). opened d m x (drop n ns)) back c) (alike-shadow d m (drop k xs) (drop j ns) (each-drop _ k xs h)) in
    alike_choice (is_interval (suc d) s) (given (digest_of s.part)) (join (opened d st (take k' (shadow xs)) (take j' ns)) (opened d m (drop k' (shadow xs)) (drop j' ns)))
    s.part (join (opened d st (take k xs) (take j ns)) (opened d m (drop k xs) (drop j ns)))
    (record { digest = refl; order = sym h.0 }) (alike_join _ _ _ _ l r)
