-- Neighboring places, and the intervals that hold none of them.
use Rattle.std.proofs.Common.{◌≡◌, ◌∙◌, ℕ, zero, suc, ◌+◌, ◌-◌, ◌^◌, ◌<◌, ◌≤◌, List, [], ◌∷◌, ◌++◌, length, map, take, drop, Bool, cond, ltb, refl, sym, ap, ap₂, subst, inl, inr, arith, length-drop}
use Rattle.std.proofs.lemmas.Bool.{cases_Bool, ltb-true, ltb-false}
use Rattle.std.proofs.lemmas.List.{length-take-le}
use Rattle.std.proofs.Math.Nat.{pow-suc}
use Rattle.namespace_id.specs.declared.namespaces.Namespace.{Namespace}
use Rattle.namespace_id.specs.declared.shares.Share.{Share}
use Rattle.namespace_id.specs.declared.digests.Digest.{Digest}
use Rattle.nmt_proofs.specs.Parts.{Part}
use Rattle.nmt_proofs.specs.Openings.{Shown, begun, outside, leaves_from, digests_from}
use Rattle.nmt_proofs.proofs.Parts.SingleLemmas.{single}
use Rattle.nmt_proofs.proofs.Parts.ShadowLemmas.{with_part, outside-parts}

-- single places, each behind the one before it
abbrev pub IsRun : ℕ → List Shown → Type 0
IsRun from [] = Unit {0}
IsRun from (s ∷ ss) = (s.from ≡ from) × (s.size ≡ 1) × IsRun (suc from) ss

-- the first places of a run
run-take : (k from : ℕ) (ss : List Shown) → IsRun from ss → IsRun from (take k ss)
run-take zero from ss h = tt
run-take (suc k) from [] h = tt
run-take (suc k) from (s ∷ ss) h = (h.0, h.1, run-take k (suc from) ss h.2)

-- and those behind them
run-drop : (k from : ℕ) (ss : List Shown) → IsRun from ss → IsRun (from + k) (drop k ss)
run-drop zero from ss h = let e : from ≡ from + 0 = omega arith in subst (λ (j : ℕ). IsRun j ss) e h
run-drop (suc k) from [] h = tt
run-drop (suc k) from (s ∷ ss) h = let e : suc from + k ≡ from + suc k = omega arith in subst (λ (j : ℕ). IsRun j (drop k ss)) e (run-drop k (suc from) ss h.2)

-- the leaves of a range are a run
pub run_leaves : (from : ℕ) (name : Namespace) (shares : List Share) → IsRun from (leaves_from from name shares)
unfolding leaves_from
run_leaves from name [] = tt
run_leaves from name (s ∷ shares) = (refl, refl, run_leaves (suc from) name shares)

-- as long as the range
pub length-leaves_from : (from : ℕ) (name : Namespace) (shares : List Share) → length (leaves_from from name shares) ≡ length shares
unfolding leaves_from
length-leaves_from from name [] = refl
length-leaves_from from name (s ∷ shares) = ap suc (length-leaves_from (suc from) name shares)

-- so are digests at neighboring places
pub run_digests : (from : ℕ) (ds : List Digest) → IsRun from (digests_from from ds)
unfolding digests_from
run_digests from [] = tt
run_digests from (d ∷ ds) = (refl, refl, run_digests (suc from) ds)

-- as many as there are digests
pub length-digests_from : (from : ℕ) (ds : List Digest) → length (digests_from from ds) ≡ length ds
unfolding digests_from
length-digests_from from [] = refl
length-digests_from from (d ∷ ds) = ap suc (length-digests_from (suc from) ds)

-- two runs of one length differ in what they show alone
same_run : (p : Part) (from : ℕ) (xs ys : List Shown) → IsRun from xs → IsRun from ys → length xs ≡ length ys → map (with_part (λ x. p)) xs ≡ map (with_part (λ x. p)) ys
same_run p from [] [] h k e = refl
same_run p from [] (y ∷ ys) h k e = absurd (omega arith)
same_run p from (x ∷ xs) [] h k e = absurd (omega arith)
same_run p from (x ∷ xs) (y ∷ ys) h k e =
    ap₂ (λ (s : Shown) (ss : List Shown). s ∷ ss) (λ i. record { from = (h.0 ∙ sym k.0) i; size = (h.1 ∙ sym k.1) i; part = p })
    (same_run p (suc from) xs ys h.2 k.2 (omega arith))

-- so the same intervals hold none of them
pub outside-run : (p : Part) (d st from : ℕ) (xs ys : List Shown) → IsRun from xs → IsRun from ys → length xs ≡ length ys → outside d st xs ≡ outside d st ys
outside-run p d st from xs ys h k e = sym (outside-parts (λ x. p) d st xs) ∙ ap (outside d st) (same_run p from xs ys h k e) ∙ outside-parts (λ x. p) d st ys

-- an interval of one place that is shown leaves nothing out
pub outside_one : (st : ℕ) (s : Shown) (ss : List Shown) → outside 0 st (s ∷ ss) ≡ []
unfolding outside
outside_one st s ss = refl

-- how many places of a run begin before a middle: as many as there are, and are before it
record IsSplit (from count m k : ℕ) : Type 0 where
  pub few : k ≤ count
  pub before : k ≤ m - from
  pub behind : k < count → m ≤ from + k

-- those that begin before a middle
begun-run : (m from : ℕ) (ss : List Shown) → IsRun from ss → IsSplit from (length ss) m (begun m ss)
unfolding begun
begun-run m from [] h = record { few = omega arith; before = omega arith; behind = λ k. absurd (omega arith) }
begun-run m from (s ∷ ss) h =
    let Goal : Bool → Type 0 = λ b. IsSplit from (suc (length ss)) m (cond b (suc (begun m ss)) 0) in
    elim (cases_Bool (ltb s.from m)) [
      | inl t ↦
          let lt : s.from < m = ltb-true s.from m t in
          let rest : IsSplit (suc from) (length ss) m (begun m ss) = begun-run m (suc from) ss h.2 in
          subst Goal (sym t) (record {
            few = omega (arith, rest.few);
            before = omega (arith, rest.before, lt, h.0);
            behind = (λ l. omega (arith, rest.behind (omega (arith, l))));
          })
      | inr f ↦
          let le : m ≤ s.from = ltb-false s.from m f in
          subst Goal (sym f) (record { few = omega arith; before = omega arith; behind = (λ l. omega (arith, le, h.0)) })
    ]

-- the two halves of an interval that holds some of a run
pub record AreHalves (d st from : ℕ) (ss left right : List Shown) : Type 0 where
  pub outside_is : outside (suc d) st ss ≡ outside d st left ++ outside d (st + 2 ^ d) right
  pub run_left : IsRun from left
  pub run_right : IsRun (from + length left) right
  pub together : length left + length right ≡ length ss
  pub before : length left ≤ st + 2 ^ d - from
  pub behind : 0 < length right → st + 2 ^ d ≤ from + length left
  pub twice : 2 ^ suc d ≡ 2 ^ d + 2 ^ d

-- an interval that holds some of a run is halved
pub run-halves : (d st from : ℕ) (s : Shown) (ss : List Shown) → IsRun from (s ∷ ss)
    → AreHalves d st from (s ∷ ss) (take (begun (st + 2 ^ d) (s ∷ ss)) (s ∷ ss)) (drop (begun (st + 2 ^ d) (s ∷ ss)) (s ∷ ss))
unfolding outside
run-halves d st from s ss h =
    let xs : List Shown = s ∷ ss in
    let m : ℕ = st + 2 ^ d in
    let k : ℕ = begun m xs in
    let at : IsSplit from (length xs) m k = begun-run m from xs h in
    let left : length (take k xs) ≡ k = length-take-le k xs at.few in
    let right : length (drop k xs) ≡ length xs - k = length-drop k xs in
    record {
      outside_is = ap (λ (b : Bool). cond b [] (outside d st (take k xs) ++ outside d m (drop k xs))) (single d s h.1);
      run_left = run-take k from xs h;
      run_right = subst (λ (j : ℕ). IsRun (from + j) (drop k xs)) (sym left) (run-drop k from xs h);
      together = omega (arith, left, right, at.few);
      before = omega (arith, left, at.before);
      behind = (λ l. omega (arith, left, at.behind (omega (arith, right, l))));
      twice = omega (arith, pow-suc 2 d);
    }
