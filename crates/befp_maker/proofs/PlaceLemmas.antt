-- The k positions of a fraud proof: one, and the first k - 1 others.
use Rattle.std.proofs.Common.{◌≡◌, ◌≢◌, ◌∙◌, ℕ, zero, suc, ◌+◌, ◌-◌, ◌*◌, ◌<◌, ◌≤◌, List, [], ◌∷◌, ◌++◌, length, length-append, Bool, true, cond, sym, ap, ap₂, subst, inl, inr, arith}
use Rattle.std.specs.Prelude.{nat_lt}
use Rattle.std.specs.List.{Contains, list_all}
use Rattle.std.proofs.lemmas.Bool.{and_parts, cases_lt, lt-ltb, le-ltb}
use Rattle.std.proofs.lemmas.List.{append-nil}
use Rattle.std.proofs.lemmas.List.Elements.{Contains-append_left, Contains-push}
use Rattle.namespace_id.specs.Lists.{holds_along, ascending}
use Rattle.namespace_id.proofs.AscendingLemmas.{length-ascending}
use Rattle.namespace_id.proofs.AscentLemmas.{ascending-last, along_then}
use Rattle.axis_roots.proofs.Grids.WordLemmas.{first_positions}
use Rattle.befp_maker.specs.Conflicts.{positions_with}

-- numbers that count up, in two parts
ascending-append : (a first b : ℕ) → ascending first (a + b) ≡ ascending first a ++ ascending (first + a) b
unfolding ascending
ascending-append zero first b =
    let all : 0 + b ≡ b = omega arith in
    let start : first ≡ first + 0 = omega arith in
    ap (ascending first) all ∙ ap (λ (p : ℕ). ascending p b) start
ascending-append (suc a) first b =
    let all : suc a + b ≡ suc (a + b) = omega arith in
    let next : suc first + a ≡ first + suc a = omega arith in
    ap (ascending first) all ∙ ap (λ (ps : List ℕ). first ∷ ps) (ascending-append a (suc first) b)
    ∙ ap (λ (p : ℕ). first ∷ ascending (suc first) a ++ ascending p b) next

-- the positions with one of the first k
with-below : (k pos : ℕ) → pos < k → positions_with k pos ≡ ascending 0 k
unfolding positions_with
with-below k pos h = ap (λ (b : Bool). cond b (ascending 0 k) (ascending 0 (k - 1) ++ pos ∷ [])) (lt-ltb pos k h)

-- those with a later one
with-above : (k pos : ℕ) → k ≤ pos → positions_with k pos ≡ ascending 0 (k - 1) ++ pos ∷ []
unfolding positions_with
with-above k pos h = ap (λ (b : Bool). cond b (ascending 0 k) (ascending 0 (k - 1) ++ pos ∷ [])) (le-ltb pos k h)

-- they ascend
pub with-along : (k pos : ℕ) → holds_along nat_lt (positions_with k pos) ≡ true
with-along k pos = elim (cases_lt pos k) [
  | inl low ↦
      subst (λ (ps : List ℕ). holds_along nat_lt ps ≡ true) (sym (with-below k pos low))
      (and_parts (list_all (λ p. nat_lt p (2 * k)) (ascending 0 k)) (holds_along nat_lt (ascending 0 k)) (first_positions k)).1
  | inr high ↦
      subst (λ (ps : List ℕ). holds_along nat_lt ps ≡ true) (sym (with-above k pos high)) (along_then (k - 1) 0 pos (omega arith))
]

-- there are k of them
pub length-with : (k pos : ℕ) → 0 < k → length (positions_with k pos) ≡ k
length-with k pos some = elim (cases_lt pos k) [
  | inl low ↦ ap length (with-below k pos low) ∙ length-ascending k 0
  | inr high ↦
      ap length (with-above k pos high) ∙ length-append (ascending 0 (k - 1)) (pos ∷ []) ∙ omega (arith, length-ascending (k - 1) 0)
]

-- the ones before, the one, and the ones behind it
pub with-parts : (k pos first n : ℕ) → first + 1 + n ≡ k → (pos < k → first ≡ pos) → (k ≤ pos → n ≡ 0)
    → (ascending 0 first ++ pos ∷ []) ++ ascending (first + 1) n ≡ positions_with k pos
unfolding ascending
with-parts k pos first n count low high = elim (cases_lt pos k) [
  | inl below ↦
      let same : pos ≡ 0 + first = omega (arith, low below) in
      let next : 0 + suc first ≡ first + 1 = omega arith in
      let all : suc first + n ≡ k = omega arith in
      ap (λ (p : ℕ). (ascending 0 first ++ p ∷ []) ++ ascending (first + 1) n) same
      ∙ ap₂ (λ (ps : List ℕ) (p : ℕ). ps ++ ascending p n) (sym (ascending-last first 0)) (sym next)
      ∙ sym (ascending-append (suc first) 0 n) ∙ ap (ascending 0) all ∙ sym (with-below k pos below)
  | inr above ↦
      let none : n ≡ 0 = high above in
      let before : first ≡ k - 1 = omega arith in
      ap (λ (m : ℕ). (ascending 0 first ++ pos ∷ []) ++ ascending (first + 1) m) none
      ∙ append-nil (ascending 0 first ++ pos ∷ []) ∙ ap (λ (m : ℕ). ascending 0 m ++ pos ∷ []) before ∙ sym (with-above k pos above)
]

-- none before is the one
pub before_apart : (k pos first n p : ℕ) → first + 1 + n ≡ k → (pos < k → first ≡ pos) → p < 0 + first → p ≢ pos
before_apart k pos first n p count low h same = elim (cases_lt pos k) [
  | inl below ↦ absurd (omega (arith, low below))
  | inr above ↦ absurd (omega arith)
]

-- nor is one behind it
pub behind_apart : (k pos first n p : ℕ) → (pos < k → first ≡ pos) → (k ≤ pos → n ≡ 0) → first + 1 ≤ p → p < first + 1 + n → p ≢ pos
behind_apart k pos first n p low high above h same = elim (cases_lt pos k) [
  | inl below ↦ absurd (omega (arith, low below))
  | inr beyond ↦ absurd (omega (arith, high beyond))
]

-- the one is among them
pub with-here : (k pos first n : ℕ) → (ascending 0 first ++ pos ∷ []) ++ ascending (first + 1) n ≡ positions_with k pos → Contains (positions_with k pos) pos
with-here k pos first n parts =
    subst (λ (ps : List ℕ). Contains ps pos) parts
    (Contains-append_left (ascending 0 first ++ pos ∷ []) (ascending (first + 1) n) pos (Contains-push (ascending 0 first) pos))
