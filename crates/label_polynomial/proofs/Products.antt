-- Products of polynomials.
use Rattle.std.proofs.Common.{◌≡◌, ◌∙◌, ℕ, ◌+◌, ◌<◌, List, [], ◌∷◌, length, sym, ap, ap₂, arith}
use Rattle.std.specs.Prelude.{bit_xor}
use Rattle.gf_cantor.proofs.Laws.{size-pos, product_assoc, xor-product, zero-product}
use Rattle.label_polynomial.specs.Polynomial.{value_at, AreCoefficients}
use Rattle.label_polynomial.proofs.Sums.{sum, scaled, value_at-sum, value_at-scaled, length-sum, length-scaled, AreCoefficients-sum, AreCoefficients-scaled}
use Rattle.gf_cantor.specs.Field.{Field, product}
use Rattle.gf_cantor.specs.Laws.{AreFieldLaws}

module _ (F : Field) (L : AreFieldLaws F) where
  -- the product of two polynomials
  unfoldable pub multiplied : List ℕ → List ℕ → List ℕ
  multiplied [] qs = []
  multiplied (p ∷ ps) qs = sum (scaled F L p qs) (0 ∷ multiplied ps qs)

  -- the value of a product is the product of the values
  pub value_at-multiplied : (ps qs : List ℕ) (x : ℕ) → value_at F (multiplied ps qs) x ≡ product F (value_at F ps x) (value_at F qs x)
  unfolding multiplied value_at
  value_at-multiplied [] qs x = sym (zero-product F L (value_at F qs x))
  value_at-multiplied (p ∷ ps) qs x =
      value_at-sum F L (scaled F L p qs) (0 ∷ multiplied ps qs) x
      ∙ ap₂ bit_xor (value_at-scaled F L p qs x)
      (ap (product F x) (value_at-multiplied ps qs x) ∙ sym (product_assoc F L x (value_at F ps x) (value_at F qs x)))
      ∙ sym (xor-product F L p (product F x (value_at F ps x)) (value_at F qs x))

  -- the degrees of the factors add up
  pub length-multiplied : (ps qs : List ℕ) → 0 < length ps → 0 < length qs → length (multiplied ps qs) + 1 ≡ length ps + length qs
  unfolding multiplied
  length-multiplied [] qs hp hq = absurd (omega arith)
  length-multiplied (p ∷ []) qs hp hq = omega (arith, length-sum F L (scaled F L p qs) (0 ∷ []), length-scaled F L p qs)
  length-multiplied (p ∷ r ∷ ps) qs hp hq =
      omega (arith, length-sum F L (scaled F L p qs) (0 ∷ multiplied (r ∷ ps) qs), length-scaled F L p qs, length-multiplied (r ∷ ps) qs (omega arith) hq)

  -- a product has labels as coefficients
  pub AreCoefficients-multiplied : (ps qs : List ℕ) → AreCoefficients F (multiplied ps qs)
  unfolding multiplied AreCoefficients
  AreCoefficients-multiplied [] qs = tt
  AreCoefficients-multiplied (p ∷ ps) qs =
      AreCoefficients-sum F L (scaled F L p qs) (0 ∷ multiplied ps qs) (AreCoefficients-scaled F L p qs) (size-pos F L, AreCoefficients-multiplied ps qs)
