-- Which positions are missing, and how many.
use Rattle.std.proofs.Common.{◌≡◌, ◌≢◌, ◌⊎◌, ℕ, zero, suc, ◌+◌, ◌<◌, ◌≤◌, Bool, List, [], ◌∷◌, ◌++◌, length, get_or, if◌then◌else◌, refl, sym, ap, subst, arith, inl, inr}
use Rattle.std.proofs.lemmas.Bool.{cases_eq, eq-eqb, ne_eqb}
use Rattle.gf_cantor.specs.Field.{Field, size}
use Rattle.label_polynomial.specs.Polynomial.{Avoids, ArePoints}
use Rattle.leopard_code.specs.Locators.{missing_from}

-- positions from a first one on, up to a last one, that ascend
unfoldable pub Rises : ℕ → ℕ → List ℕ → Type 0
Rises first last [] = Unit {0}
Rises first last (p ∷ rest) = (first ≤ p) × (p < last) × Rises (suc p) last rest

-- a known position is left out
pub missing-known : (p first n : ℕ) (known : List ℕ) → p ≡ first → missing_from first (suc n) (p ∷ known) ≡ missing_from (suc first) n known
unfolding missing_from
missing-known p first n known e =
    ap (λ (t : Bool). if t then missing_from (suc first) n known else first ∷ missing_from (suc first) n (p ∷ known)) (eq-eqb p first e)

-- any other is missing
pub missing-other : (p first n : ℕ) (known : List ℕ) → p ≢ first → missing_from first (suc n) (p ∷ known) ≡ first ∷ missing_from (suc first) n (p ∷ known)
unfolding missing_from
missing-other p first n known e =
    ap (λ (t : Bool). if t then missing_from (suc first) n known else first ∷ missing_from (suc first) n (p ∷ known)) (ne_eqb p first e)

-- all that are not known are missing
pub length-missing : (n first last : ℕ) (known : List ℕ) → first + n ≡ last → Rises first last known → length (missing_from first n known) + length known ≡ n
unfolding missing_from Rises
length-missing zero first last [] e h = refl
length-missing zero first last (p ∷ rest) e h = absurd (omega (arith, h.0, h.1))
length-missing (suc n) first last [] e h = omega (arith, length-missing n (suc first) last [] (omega arith) tt)
length-missing (suc n) first last (p ∷ rest) e h = elim (cases_eq p first) [
  | inl same ↦
      omega (arith, ap length (missing-known p first n rest same), length-missing n (suc first) last rest (omega arith) (subst (λ (q : ℕ). Rises (suc q) last rest) same h.2))
  | inr other ↦
      let above : suc first ≤ p = omega (arith, h.0, other) in
      omega (arith, ap length (missing-other p first n rest other), length-missing n (suc first) last (p ∷ rest) (omega arith) (above, h.1, h.2))
]

-- a position below the first is none of the missing ones
pub avoids_missing : (n x first : ℕ) (known : List ℕ) → x < first → Avoids x (missing_from first n known)
unfolding missing_from Avoids
avoids_missing zero x first known h = tt
avoids_missing (suc n) x first [] h = ((λ e. absurd (omega arith)), avoids_missing n x (suc first) [] (omega arith))
avoids_missing (suc n) x first (p ∷ rest) h = elim (cases_eq p first) [
  | inl same ↦ subst (Avoids x) (sym (missing-known p first n rest same)) (avoids_missing n x (suc first) rest (omega arith))
  | inr other ↦
      subst (Avoids x) (sym (missing-other p first n rest other)) ((λ e. absurd (omega arith)), avoids_missing n x (suc first) (p ∷ rest) (omega arith))
]

-- the missing positions are different points
pub points_missing : (f : Field) (n first : ℕ) (known : List ℕ) → first + n ≤ size f → ArePoints f (missing_from first n known)
unfolding missing_from ArePoints
points_missing f zero first known h = tt
points_missing f (suc n) first [] h = (omega arith, avoids_missing n first (suc first) [] (omega arith), points_missing f n (suc first) [] (omega arith))
points_missing f (suc n) first (p ∷ rest) h = elim (cases_eq p first) [
  | inl same ↦ subst (ArePoints f) (sym (missing-known p first n rest same)) (points_missing f n (suc first) rest (omega arith))
  | inr other ↦
      subst (ArePoints f) (sym (missing-other p first n rest other))
      (omega arith, avoids_missing n first (suc first) (p ∷ rest) (omega arith), points_missing f n (suc first) (p ∷ rest) (omega arith))
]

-- a position that is known, and none of the missing ones
pub record IsKnown (pos : ℕ) (known ms : List ℕ) : Type 0 where
  pub index : ℕ
  pub within : index < length known
  pub here : get_or known index 0 ≡ pos
  pub avoids : Avoids pos ms

-- a position that is missing, with those before and after it
pub record IsMissing (pos : ℕ) (known ms : List ℕ) : Type 0 where
  pub before : List ℕ
  pub after : List ℕ
  pub parts : ms ≡ before ++ pos ∷ after
  pub unknown : (i : ℕ) → i < length known → get_or known i 0 ≢ pos

-- either of both
abbrev pub Stands : ℕ → List ℕ → List ℕ → Type 0
Stands pos known ms = IsKnown pos known ms ⊎ IsMissing pos known ms
