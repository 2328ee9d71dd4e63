-- Derivatives of sums, multiples and products of polynomials.
use Rattle.std.proofs.Common.{◌≡◌, ◌∙◌, ℕ, List, [], ◌∷◌, refl, sym, ap, ap₂}
use Rattle.std.specs.Prelude.{bit_xor}
use Rattle.std.specs.Int.Bits.{xor_assoc, xor_zero_r}
use Rattle.std.proofs.lemmas.Nat.{xor_comm}
use Rattle.gf_cantor.proofs.Linear.{xor_swap_middle}
use Rattle.gf_cantor.proofs.Laws.{product_assoc, product_swap, product-xor, xor-product, product-zero, zero-product}
use Rattle.label_polynomial.specs.Polynomial.{value_at}
use Rattle.label_polynomial.specs.Derivatives.{derivative_at}
use Rattle.label_polynomial.proofs.Sums.{sum, scaled, value_at-sum, value_at-scaled}
use Rattle.label_polynomial.proofs.Products.{multiplied, value_at-multiplied}
use Rattle.gf_cantor.specs.Field.{Field, product}
use Rattle.gf_cantor.specs.Laws.{AreFieldLaws}

module _ (F : Field) (L : AreFieldLaws F) where
  -- the derivative of a sum is the sum of the derivatives
  pub derivative_at-sum : (ps qs : List ℕ) (x : ℕ) → derivative_at F (sum ps qs) x ≡ bit_xor (derivative_at F ps x) (derivative_at F qs x)
  unfolding derivative_at sum
  derivative_at-sum [] qs x = refl
  derivative_at-sum (p ∷ ps) [] x = sym (xor_zero_r (derivative_at F (p ∷ ps) x))
  derivative_at-sum (p ∷ ps) (q ∷ qs) x =
      ap₂ bit_xor (value_at-sum F L ps qs x) (ap (product F x) (derivative_at-sum ps qs x) ∙ product-xor F L x (derivative_at F ps x) (derivative_at F qs x))
      ∙ xor_swap_middle (value_at F ps x) (value_at F qs x) (product F x (derivative_at F ps x)) (product F x (derivative_at F qs x))

  -- the derivative of a multiple is the multiple of the derivative
  pub derivative_at-scaled : (c : ℕ) (ps : List ℕ) (x : ℕ) → derivative_at F (scaled F L c ps) x ≡ product F c (derivative_at F ps x)
  unfolding derivative_at scaled
  derivative_at-scaled c [] x = sym (product-zero F L c)
  derivative_at-scaled c (p ∷ ps) x =
      ap₂ bit_xor (value_at-scaled F L c ps x) (ap (product F x) (derivative_at-scaled c ps x) ∙ product_swap F L x c (derivative_at F ps x))
      ∙ sym (product-xor F L c (value_at F ps x) (product F x (derivative_at F ps x)))

  -- the first goes to the last, and the middle two together
  regroup : (a b c e : ℕ) → bit_xor a (bit_xor b (bit_xor c e)) ≡ bit_xor (bit_xor b c) (bit_xor a e)
  regroup a b c e =
      sym (xor_assoc a b (bit_xor c e)) ∙ ap (λ (z : ℕ). bit_xor z (bit_xor c e)) (xor_comm a b) ∙ xor_swap_middle b a c e

  -- the product rule
  pub derivative_at-multiplied : (ps qs : List ℕ) (x : ℕ)
      → derivative_at F (multiplied F L ps qs) x ≡ bit_xor (product F (derivative_at F ps x) (value_at F qs x)) (product F (value_at F ps x) (derivative_at F qs x))
  unfolding multiplied derivative_at value_at
  derivative_at-multiplied [] qs x = sym (ap₂ bit_xor (zero-product F L (value_at F qs x)) (zero-product F L (derivative_at F qs x)))
  derivative_at-multiplied (p ∷ ps) qs x =
      let q : ℕ = value_at F qs x in
      let r : ℕ = derivative_at F qs x in
      let v : ℕ = value_at F ps x in
      let s : ℕ = derivative_at F ps x in
      derivative_at-sum (scaled F L p qs) (0 ∷ multiplied F L ps qs) x
      ∙ ap₂ bit_xor (derivative_at-scaled p qs x)
      (ap₂ (λ (y z : ℕ). bit_xor y (product F x z)) (value_at-multiplied F L ps qs x) (derivative_at-multiplied ps qs x)
      ∙ ap (bit_xor (product F v q)) (product-xor F L x (product F s q) (product F v r)))
      ∙ regroup (product F p r) (product F v q) (product F x (product F s q)) (product F x (product F v r))
      ∙ ap₂ bit_xor
      (ap (bit_xor (product F v q)) (sym (product_assoc F L x s q)) ∙ sym (xor-product F L v (product F x s) q))
      (ap (bit_xor (product F p r)) (sym (product_assoc F L x v r)) ∙ sym (xor-product F L p (product F x v) r))
