-- Each position is known or missing.
use Rattle.std.proofs.Common.{◌≡◌, ◌≢◌, ℕ, zero, suc, ◌+◌, ◌<◌, ◌≤◌, List, [], ◌∷◌, length, get_or, sym, ap, subst, arith, inl, inr, IsTrue, ◌*◌}
use Rattle.std.proofs.lemmas.Bool.{cases_eq}
use Rattle.label_polynomial.specs.Polynomial.{Avoids}
use Rattle.leopard_code.specs.Codewords.{are_positions}
use Rattle.leopard_code.specs.Locators.{missing_from}
use Rattle.leopard_code.proofs.MissingLemmas.{Rises, missing-known, missing-other, avoids_missing, Stands}
use Rattle.leopard_code.proofs.PositionLemmas.{positions_parts, next_above}

-- positions that rise are at least the first
pub rises-le : (first last : ℕ) (known : List ℕ) (i : ℕ) → Rises first last known → i < length known → first ≤ get_or known i 0
unfolding Rises
rises-le first last [] i h l = absurd (omega arith)
rises-le first last (p ∷ rest) zero h l = h.0
rises-le first last (p ∷ rest) (suc i) h l = omega (arith, h.0, rises-le (suc p) last rest i h.2 (omega arith))

-- another missing position before changes nothing
missing_before : (pos first : ℕ) (known ms : List ℕ) → pos ≢ first → Stands pos known ms → Stands pos known (first ∷ ms)
unfolding Avoids
missing_before pos first known ms other (inl k) = inl record { index = k.index; within = k.within; here = k.here; avoids = (other, k.avoids) }
missing_before pos first known ms other (inr m) =
    inr record { before = first ∷ m.before; after = m.after; parts = ap (λ (l : List ℕ). first ∷ l) m.parts; unknown = m.unknown }

-- a list whose head is another known position
known_tail : (pos p : ℕ) (rest : List ℕ) → p ≢ pos → ((i : ℕ) → i < length rest → get_or rest i 0 ≢ pos) → (i : ℕ) → i < length (p ∷ rest) → get_or (p ∷ rest) i 0 ≢ pos
known_tail pos p rest other h zero l = other
known_tail pos p rest other h (suc i) l = h i (omega arith)

-- another known position before changes nothing
known_before : (pos p : ℕ) (rest ms : List ℕ) → p ≢ pos → Stands pos rest ms → Stands pos (p ∷ rest) ms
known_before pos p rest ms other (inl k) = inl record { index = suc k.index; within = omega (arith, k.within); here = k.here; avoids = k.avoids }
known_before pos p rest ms other (inr m) =
    inr record { before = m.before; after = m.after; parts = m.parts; unknown = known_tail pos p rest other m.unknown }

-- the first position is missing
missing_first : (pos first : ℕ) (known ms : List ℕ) → pos ≡ first → ((i : ℕ) → i < length known → get_or known i 0 ≢ pos) → Stands pos known (first ∷ ms)
missing_first pos first known ms here unknown =
    inr record { before = []; after = ms; parts = ap (λ (x : ℕ). x ∷ ms) (sym here); unknown = unknown }

-- each position is known or missing
pub stands : (n first last : ℕ) (known : List ℕ) (pos : ℕ) → first + n ≡ last → Rises first last known → first ≤ pos → pos < last → Stands pos known (missing_from first n known)
unfolding missing_from Rises
stands zero first last known pos e h low high = absurd (omega arith)
stands (suc n) first last [] pos e h low high = elim (cases_eq pos first) [
  | inl here ↦ missing_first pos first [] (missing_from (suc first) n []) here (λ i l. absurd (omega arith))
  | inr later ↦ missing_before pos first [] (missing_from (suc first) n []) later (stands n (suc first) last [] pos (omega arith) tt (omega arith) high)
]
stands (suc n) first last (p ∷ rest) pos e h low high = elim (cases_eq p first) [
  | inl same ↦
      subst (Stands pos (p ∷ rest)) (sym (missing-known p first n rest same))
      (elim (cases_eq pos first) [
        | inl here ↦ inl record {
          index = 0;
          within = omega arith;
          here = omega (arith, same, here);
          avoids = avoids_missing n pos (suc first) rest (omega arith);
        }
        | inr later ↦
            known_before pos p rest (missing_from (suc first) n rest) (λ q. later (omega (arith, q, same)))
            (stands n (suc first) last rest pos (omega arith) (subst (λ (q : ℕ). Rises (suc q) last rest) same h.2) (omega arith) high)
      ])
  | inr other ↦
      let above : suc first ≤ p = omega (arith, h.0, other) in
      subst (Stands pos (p ∷ rest)) (sym (missing-other p first n rest other))
      (elim (cases_eq pos first) [
        | inl here ↦
            missing_first pos first (p ∷ rest) (missing_from (suc first) n (p ∷ rest)) here
            (λ i l q. absurd (omega (arith, q, here, above, rises-le p last (p ∷ rest) i (omega arith, h.1, h.2) l)))
        | inr later ↦
            missing_before pos first (p ∷ rest) (missing_from (suc first) n (p ∷ rest)) later
            (stands n (suc first) last (p ∷ rest) pos (omega arith) (above, h.1, h.2) (omega arith) high)
      ])
]

-- the positions of a codeword rise
rises_from : (k first p : ℕ) (rest : List ℕ) → first ≤ p → IsTrue (are_positions k (p ∷ rest)) → Rises first (2 * k) (p ∷ rest)
unfolding Rises
rises_from k first p [] low positions = (low, (positions_parts k p [] positions).0, tt)
rises_from k first p (q ∷ rest) low positions =
    let parts = positions_parts k p (q ∷ rest) positions in
    (low, parts.0, rises_from k (suc p) q rest (next_above k p q rest positions) parts.1)

-- from 0 on
pub positions_rise : (k : ℕ) (known : List ℕ) → IsTrue (are_positions k known) → Rises 0 (2 * k) known
unfolding Rises
positions_rise k [] positions = tt
positions_rise k (p ∷ rest) positions = rises_from k 0 p rest (omega arith) positions

-- a later position of those that rise is another
rises_apart : (first last : ℕ) (known : List ℕ) (i j : ℕ) → Rises first last known → i < j → j < length known → get_or known i 0 ≢ get_or known j 0
unfolding Rises
rises_apart first last [] i j h l within e = absurd (omega arith)
rises_apart first last (p ∷ rest) zero zero h l within e = absurd (omega arith)
rises_apart first last (p ∷ rest) zero (suc j) h l within e = absurd (omega (arith, e, rises-le (suc p) last rest j h.2 (omega arith)))
rises_apart first last (p ∷ rest) (suc i) zero h l within e = absurd (omega arith)
rises_apart first last (p ∷ rest) (suc i) (suc j) h l within e = rises_apart (suc p) last rest i j h.2 (omega arith) (omega arith) e

-- and so are positions of a codeword
pub positions_apart : (k : ℕ) (known : List ℕ) (i j : ℕ) → IsTrue (are_positions k known) → i < j → j < length known
    → get_or known i 0 ≢ get_or known j 0
positions_apart k known i j positions h within =
    rises_apart 0 (2 * k) known i j (positions_rise k known positions) h within
