-- What is opened: its digests are sized, and its leaves stand at depth 0.
use Rattle.std.proofs.Common.{◌≡◌, ◌∙◌, ℕ, zero, suc, ◌+◌, ◌^◌, List, [], ◌∷◌, ◌++◌, length, take, drop, get_or, Bool, true, false, cond, refl, sym, ap, subst, inl, inr, arith, length-append, length-drop}
use Rattle.std.proofs.lemmas.List.{length-take-le}
use Rattle.std.proofs.lemmas.Bool.{cases_Bool, eqb-true, true≢false}
use Rattle.namespace_id.specs.declared.digests.Digest.{Digest}
use Rattle.namespace_id.specs.Digests.{IsDigest, AreDigests, no_digest}
use Rattle.nmt_proofs.specs.Parts.{Part, given, leaf, join}
use Rattle.nmt_proofs.specs.Openings.{Shown, begun, is_interval, outside, opened}
use Rattle.nmt_proofs.specs.Clashes.{IsSized, HasDepth, IsShown, AreShown, IsOpening}
use Rattle.nmt_proofs.proofs.Parts.ListLemmas.{each-take, each-drop}
use Rattle.nmt_proofs.proofs.Parts.SingleLemmas.{single}

-- what may be shown is sized
pub shown-sized : (size : ℕ) (p : Part) → IsShown size p → IsSized p
shown-sized size (given d) h = h
shown-sized size (leaf n s) h = (h.1, h.2)
shown-sized size (join l r) h = elim h [ ]

-- and it stands for one place, if it is a leaf
pub shown-flat : (size : ℕ) (p : Part) → IsShown size p → HasDepth 0 p
shown-flat size (given d) h = tt
shown-flat size (leaf n s) h = tt
shown-flat size (join l r) h = elim h [ ]

-- an interval of several places that is shown is a given digest
shown-deep : (d : ℕ) (s : Shown) (p : Part) → s.part ≡ p → IsShown s.size p → is_interval (suc d) s ≡ true → HasDepth (suc d) p
shown-deep d s (given e) is h t = tt
shown-deep d s (leaf n a) is h t = absurd (true≢false (sym t ∙ single d s h.0))
shown-deep d s (join l r) is h t = elim h [ ]

-- the only node is a digest
first_sized : (ns : List Digest) (o : Digest) → AreDigests ns → length ns ≡ 1 → IsDigest (get_or ns 0 o)
first_sized [] o h e = absurd (omega arith)
first_sized (n ∷ ns) o h e = h.0

-- the counts of nodes in both halves
pub half_counts : (b : Bool) (ns : List Digest) (l r : List (ℕ × ℕ)) → b ≡ false → length ns ≡ length (cond b [] (l ++ r))
    → (length (take (length l) ns) ≡ length l) × (length (drop (length l) ns) ≡ length r)
half_counts b ns l r f e =
    let sum : length ns ≡ length l + length r = e ∙ ap (λ (c : Bool). length (cond c [] (l ++ r))) f ∙ length-append l r in
    (length-take-le (length l) ns (omega (arith, sum)), omega (arith, sum, length-drop (length l) ns))

-- what is opened of shown parts and as many nodes as they leave out is sized
pub sized-opened : (d st : ℕ) (ss : List Shown) (ns : List Digest) → AreShown ss → AreDigests ns → length ns ≡ length (outside d st ss) → IsSized (opened d st ss ns)
unfolding opened outside
sized-opened zero st [] ns h k e = first_sized ns no_digest k e
sized-opened zero st (s ∷ ss) ns h k e = shown-sized s.size s.part h.0
sized-opened (suc d) st [] ns h k e = first_sized ns no_digest k e
sized-opened (suc d) st (s ∷ ss) ns h k e =
    let xs : List Shown = s ∷ ss in
    let m : ℕ = st + 2 ^ d in
    let i : ℕ = begun m xs in
    let l : List (ℕ × ℕ) = outside d st (take i xs) in
    let r : List (ℕ × ℕ) = outside d m (drop i xs) in
    let j : ℕ = length l in
    let joined : Part = join (opened d st (take i xs) (take j ns)) (opened d m (drop i xs) (drop j ns)) in
    elim (cases_Bool (is_interval (suc d) s)) [
      | inl t ↦ subst IsSized (sym (ap (λ (b : Bool). cond b s.part joined) t)) (shown-sized s.size s.part h.0)
      | inr f ↦
          let counts = half_counts (is_interval (suc d) s) ns l r f e in
          let both : IsSized joined = (
            sized-opened d st (take i xs) (take j ns) (each-take _ i xs h) (each-take IsDigest j ns k) counts.0,
            sized-opened d m (drop i xs) (drop j ns) (each-drop _ i xs h) (each-drop IsDigest j ns k) counts.1,
          ) in
          subst IsSized (sym (ap (λ (b : Bool). cond b s.part joined) f)) both
    ]

-- and its leaves stand for one place each
pub depth-opened : (d st : ℕ) (ss : List Shown) (ns : List Digest) → AreShown ss → HasDepth d (opened d st ss ns)
unfolding opened outside
depth-opened zero st [] ns h = tt
depth-opened zero st (s ∷ ss) ns h = shown-flat s.size s.part h.0
depth-opened (suc d) st [] ns h = tt
depth-opened (suc d) st (s ∷ ss) ns h =
    let xs : List Shown = s ∷ ss in
    let m : ℕ = st + 2 ^ d in
    let i : ℕ = begun m xs in
    let j : ℕ = length (outside d st (take i xs)) in
    let joined : Part = join (opened d st (take i xs) (take j ns)) (opened d m (drop i xs) (drop j ns)) in
    elim (cases_Bool (is_interval (suc d) s)) [
      | inl t ↦ subst (HasDepth (suc d)) (sym (ap (λ (b : Bool). cond b s.part joined) t)) (shown-deep d s s.part refl h.0 t)
      | inr f ↦
          let both : HasDepth (suc d) joined = (
            depth-opened d st (take i xs) (take j ns) (each-take _ i xs h),
            depth-opened d m (drop i xs) (drop j ns) (each-drop _ i xs h),
          ) in
          subst (HasDepth (suc d)) (sym (ap (λ (b : Bool). cond b s.part joined) f)) both
    ]

-- what an opening opens is sized
pub opening-sized : (d : ℕ) (ss : List Shown) (ns : List Digest) → IsOpening d ss ns → IsSized (opened d 0 ss ns)
opening-sized d ss ns h = sized-opened d 0 ss ns h.parts h.node_bytes (eqb-true _ _ h.count)

-- and its leaves stand for one place each
pub opening-deep : (d : ℕ) (ss : List Shown) (ns : List Digest) → IsOpening d ss ns → HasDepth d (opened d 0 ss ns)
opening-deep d ss ns h = depth-opened d 0 ss ns h.parts
