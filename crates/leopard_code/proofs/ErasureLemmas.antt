-- The value of a polynomial at a missing point, by the formal derivative of its product with the
-- locator of the missing points.
use Rattle.std.proofs.Common.{◌≡◌, ◌∙◌, ℕ, ◌+◌, ◌<◌, ◌≤◌, List, [], ◌∷◌, ◌++◌, length, sym, ap, ap₂, arith}
use Rattle.std.specs.Prelude.{bit_xor}
use Rattle.std.specs.Int.Bits.{xor_assoc, xor_self, xor_zero_r}
use Rattle.gf_cantor.proofs.Laws.{zero-product, product-zero, xor-product}
use Rattle.label_polynomial.specs.Polynomial.{value_at, AreCoefficients}
use Rattle.label_polynomial.specs.Derivatives.{derivative_at}
use Rattle.label_polynomial.proofs.Sums.{scaled}
use Rattle.label_polynomial.proofs.Through.{vanishing, length-vanishing}
use Rattle.label_polynomial.proofs.Products.{multiplied, value_at-multiplied, length-multiplied, AreCoefficients-multiplied}
use Rattle.label_polynomial.proofs.Derived.{derivative_at-sum, derivative_at-scaled, derivative_at-multiplied}
use Rattle.leopard_code.proofs.LagrangeLemmas.{away-is}
use Rattle.leopard_code.proofs.DifferenceLemmas.{away, away-append}
use Rattle.leopard_code.proofs.ZeroLemmas.{same_derivative}
use Rattle.gf_cantor.specs.Field.{Field, product, size}
use Rattle.gf_cantor.specs.Laws.{AreFieldLaws}

module _ (F : Field) (L : AreFieldLaws F) where
  -- a locator is 0 at each of its points
  pub away-root : (before after : List ℕ) (r : ℕ) → away F L (before ++ r ∷ after) r ≡ 0
  unfolding away
  away-root before after r =
      away-append F L before (r ∷ after) r
      ∙ ap (λ (z : ℕ). product F (away F L before r) (product F z (away F L after r))) (xor_self r)
      ∙ ap (product F (away F L before r)) (zero-product F L (away F L after r))
      ∙ product-zero F L (away F L before r)

  -- the derivative of (x + r) p is p + (x + r) p'
  derivative_at-locator : (r : ℕ) (rs : List ℕ) (x : ℕ) → derivative_at F (vanishing F L (r ∷ rs)) x ≡ bit_xor (away F L rs x) (product F (bit_xor x r) (derivative_at F (vanishing F L rs) x))
  unfolding vanishing derivative_at
  derivative_at-locator r rs x =
      derivative_at-sum F L (0 ∷ vanishing F L rs) (scaled F L r (vanishing F L rs)) x
      ∙ ap₂ (λ (v w : ℕ). bit_xor (bit_xor v (product F x (derivative_at F (vanishing F L rs) x))) w) (away-is F L rs x) (derivative_at-scaled F L r (vanishing F L rs) x)
      ∙ xor_assoc (away F L rs x) (product F x (derivative_at F (vanishing F L rs) x)) (product F r (derivative_at F (vanishing F L rs) x))
      ∙ ap (bit_xor (away F L rs x)) (sym (xor-product F L x r (derivative_at F (vanishing F L rs) x)))

  -- the locator's derivative at one of its points: the product of the differences of it and all others
  pub derivative_at-vanishing : (before after : List ℕ) (r : ℕ) → derivative_at F (vanishing F L (before ++ r ∷ after)) r ≡ away F L (before ++ after) r
  unfolding away
  derivative_at-vanishing [] after r =
      derivative_at-locator r after r
      ∙ ap (λ (z : ℕ). bit_xor (away F L after r) (product F z (derivative_at F (vanishing F L after) r))) (xor_self r)
      ∙ ap (bit_xor (away F L after r)) (zero-product F L (derivative_at F (vanishing F L after) r))
      ∙ xor_zero_r (away F L after r)
  derivative_at-vanishing (p ∷ before) after r =
      derivative_at-locator p (before ++ r ∷ after) r
      ∙ ap₂ (λ (v w : ℕ). bit_xor v (product F (bit_xor r p) w)) (away-root before after r) (derivative_at-vanishing before after r)

  -- what the derivative has at a missing point: the polynomial's value times the locator's derivative
  pub missing_value : (f ps before after : List ℕ) (r n : ℕ) → n ≤ size F → 0 < length f → length ps ≤ n
      → length f + length (before ++ r ∷ after) ≤ n → AreCoefficients F ps
      → ((x : ℕ) → x < n → value_at F ps x ≡ product F (value_at F f x) (away F L (before ++ r ∷ after) x))
      → derivative_at F ps r ≡ product F (value_at F f r) (away F L (before ++ after) r)
  missing_value f ps before after r n few some hp long bp same =
      let rs : List ℕ = before ++ r ∷ after in
      let v : List ℕ = vanishing F L (before ++ r ∷ after) in
      let degree : length (multiplied F L f v) ≤ n = omega (arith, length-multiplied F L f v some (omega (arith, length-vanishing F L rs)), length-vanishing F L rs) in
      same_derivative F L ps (multiplied F L f v) n hp degree few bp (AreCoefficients-multiplied F L f v)
      (λ x l. same x l ∙ ap (product F (value_at F f x)) (sym (away-is F L rs x)) ∙ sym (value_at-multiplied F L f v x)) r
      ∙ derivative_at-multiplied F L f v r
      ∙ ap₂ (λ (y z : ℕ). bit_xor (product F (derivative_at F f r) y) (product F (value_at F f r) z)) (away-is F L rs r ∙ away-root before after r) (derivative_at-vanishing before after r)
      ∙ ap (λ (z : ℕ). bit_xor z (product F (value_at F f r) (away F L (before ++ after) r))) (product-zero F L (derivative_at F f r))
