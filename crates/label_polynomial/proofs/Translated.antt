-- Polynomials whose variable is moved by a constant.
use Rattle.std.proofs.Common.{◌≡◌, ◌∙◌, ℕ, List, [], ◌∷◌, length, refl, sym, ap, ap₂, arith}
use Rattle.std.specs.Prelude.{bit_xor}
use Rattle.std.specs.Int.Bits.{xor_zero_r}
use Rattle.gf_cantor.proofs.Laws.{xor-product, product-zero}
use Rattle.label_polynomial.specs.Polynomial.{value_at}
use Rattle.label_polynomial.proofs.Sums.{sum, scaled, value_at-sum, value_at-scaled, length-sum, length-scaled}
use Rattle.gf_cantor.specs.Field.{Field, product}
use Rattle.gf_cantor.specs.Laws.{AreFieldLaws}

module _ (F : Field) (L : AreFieldLaws F) where
  -- the polynomial whose value at x is that of another at x + a
  unfoldable pub translated : ℕ → List ℕ → List ℕ
  translated a [] = []
  translated a (c ∷ cs) = sum (c ∷ []) (sum (0 ∷ translated a cs) (scaled F L a (translated a cs)))

  -- its values
  pub value_at-translated : (a : ℕ) (cs : List ℕ) (x : ℕ) → value_at F (translated a cs) x ≡ value_at F cs (bit_xor x a)
  unfolding translated value_at
  value_at-translated a [] x = refl
  value_at-translated a (c ∷ cs) x =
      let t : List ℕ = translated a cs in
      value_at-sum F L (c ∷ []) (sum (0 ∷ t) (scaled F L a t)) x
      ∙ ap₂ bit_xor (ap (bit_xor c) (product-zero F L x) ∙ xor_zero_r c)
      (value_at-sum F L (0 ∷ t) (scaled F L a t) x
      ∙ ap (bit_xor (product F x (value_at F t x))) (value_at-scaled F L a t x)
      ∙ sym (xor-product F L x a (value_at F t x))
      ∙ ap (product F (bit_xor x a)) (value_at-translated a cs x))

  -- it has as many coefficients
  pub length-translated : (a : ℕ) (cs : List ℕ) → length (translated a cs) ≡ length cs
  unfolding translated
  length-translated a [] = refl
  length-translated a (c ∷ cs) =
      let t : List ℕ = translated a cs in
      omega (arith, length-sum F L (c ∷ []) (sum (0 ∷ t) (scaled F L a t)), length-sum F L (0 ∷ t) (scaled F L a t), length-scaled F L a t, length-translated a cs)
