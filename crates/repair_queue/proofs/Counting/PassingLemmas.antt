-- Counting numbers that pass a test.
use Rattle.std.proofs.Common.{◌≡◌, ◌∙◌, ℕ, zero, suc, ◌+◌, ◌*◌, ◌≤◌, List, [], ◌∷◌, length, Bool, true, sym, ap, subst, inl, inr, arith}
use Rattle.std.specs.List.{Contains}
use Rattle.std.proofs.lemmas.Bool.{cases_eq}
use Rattle.repair_queue.specs.Closures.{AreChosen}
use Rattle.namespace_id.proofs.MemberLemmas.{contains_head, contains_tail}
pub use Rattle.repair_queue.specs.Counting.{one_if, count_from}
use Rattle.leopard_code.proofs.MissingLemmas.{Rises}
use Rattle.leopard_code.proofs.StandingLemmas.{positions_rise}

-- ---- counts

-- one number more
pub count_from-suc : (f : ℕ → Bool) (n first : ℕ) → count_from f first (suc n) ≡ count_from f first n + one_if (f (first + n))
unfolding count_from
count_from-suc f zero first = let e : first + 0 ≡ first = omega arith in ap (λ (i : ℕ). one_if (f i) + 0) (sym e) ∙ (omega arith)
count_from-suc f (suc n) first =
    let e : suc first + n ≡ first + suc n = omega arith in
    let last : one_if (f (suc first + n)) ≡ one_if (f (first + suc n)) = ap (λ (i : ℕ). one_if (f i)) e in
    omega (arith, count_from-suc f n (suc first), last)

-- ascending numbers that pass are at most as many as were counted
pub counted : (f : ℕ → Bool) (n first low : ℕ) (ps : List ℕ) → first ≤ low → Rises low (first + n) ps → ((q : ℕ) → Contains ps q → f q ≡ true)
    → length ps ≤ count_from f first n
unfolding count_from Rises
counted f n first low [] le up each = omega arith
counted f zero first low (p ∷ ps) le up each = absurd (omega arith)
counted f (suc n) first low (p ∷ ps) le up each =
    let far : suc first + n ≡ first + suc n = omega arith in
    elim (cases_eq first p) [
      | inl e ↦
          let one : one_if (f first) ≡ 1 = ap one_if (ap f e ∙ each p (contains_head p ps)) in
          let rest : length ps ≤ count_from f (suc first) n =
          counted f n (suc first) (suc p) ps (omega arith) (subst (λ (m : ℕ). Rises (suc p) m ps) (sym far) up.2) (λ q at. each q (contains_tail p q ps at)) in
          omega arith
      | inr apart ↦
          let rest : length (p ∷ ps) ≤ count_from f (suc first) n =
          counted f n (suc first) p (p ∷ ps) (omega arith) (subst (λ (m : ℕ). Rises p m (p ∷ ps)) (sym far) (omega arith, up.1, up.2)) each in
          omega arith
    ]

-- ---- chosen positions

-- where k positions pass, that many of the 2k numbers do
pub chosen_counted : (f : ℕ → Bool) (k : ℕ) (chosen : List ℕ) → AreChosen k chosen → ((p : ℕ) → Contains chosen p → f p ≡ true) → k ≤ count_from f 0 (2 * k)
chosen_counted f k chosen are pass =
    let up : Rises 0 (0 + 2 * k) chosen = let e : 2 * k ≡ 0 + 2 * k = omega arith in subst (λ (n : ℕ). Rises 0 n chosen) e (positions_rise k chosen are.positions) in
    let many : length chosen ≤ count_from f 0 (2 * k) = counted f (2 * k) 0 0 chosen (omega arith) up pass in
    omega (arith, are.count)
