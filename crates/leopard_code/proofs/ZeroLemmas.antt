-- Polynomials that agree at all points of a block have one derivative.
use Rattle.std.proofs.Common.{◌≡◌, ◌∙◌, ℕ, zero, suc, ◌+◌, ◌-◌, ◌<◌, ◌≤◌, List, [], ◌∷◌, length, refl, sym, ap, ap₂, arith}
use Rattle.std.specs.Prelude.{bit_xor}
use Rattle.std.specs.Int.Bits.{xor_self, xor_zero_r}
use Rattle.gf_cantor.proofs.Laws.{size-pos, size-above, zero-product, product-zero, zero_factor}
use Rattle.namespace_id.specs.Lists.{ascending}
use Rattle.namespace_id.proofs.AscendingLemmas.{length-ascending}
use Rattle.label_polynomial.specs.Polynomial.{value_at, AreCoefficients}
use Rattle.label_polynomial.specs.Derivatives.{derivative_at}
use Rattle.label_polynomial.proofs.Sums.{sum, value_at-sum, length-sum, AreCoefficients-sum, value_at-lt, xor_zero-same}
use Rattle.label_polynomial.proofs.Roots.{AreRoots, zero_everywhere}
use Rattle.label_polynomial.proofs.Derived.{derivative_at-sum}
use Rattle.leopard_code.proofs.PointLemmas.{points-ascending}
use Rattle.gf_cantor.specs.Field.{Field, product, size}
use Rattle.gf_cantor.specs.Laws.{AreFieldLaws}

module _ (F : Field) (L : AreFieldLaws F) where
  -- a polynomial that is 0 at numbers that count up has them as roots
  roots-ascending : (cs : List ℕ) (n first : ℕ) → ((x : ℕ) → first ≤ x → x < first + n → value_at F cs x ≡ 0) → AreRoots F L cs (ascending first n)
  unfolding AreRoots ascending
  roots-ascending cs zero first h = tt
  roots-ascending cs (suc n) first h = (h first (omega arith) (omega arith), roots-ascending cs n (suc first) (λ x lo hi. h x (omega arith) (omega arith)))

  -- a polynomial that is 0 at all points has the derivative 0
  zero_derivative : (cs : List ℕ) → length cs ≤ size F → AreCoefficients F cs → ((x : ℕ) → x < size F → value_at F cs x ≡ 0) → (x : ℕ) → derivative_at F cs x ≡ 0
  unfolding derivative_at AreCoefficients value_at
  zero_derivative [] h bytes none x = refl
  zero_derivative (c ∷ cs) h bytes none x =
      let constant : c ≡ 0 = sym (xor_zero_r c) ∙ ap (bit_xor c) (sym (zero-product F L (value_at F cs 0))) ∙ none 0 (size-pos F L) in
      let elsewhere : (y : ℕ) → 1 ≤ y → y < 1 + (size F - 1) → value_at F cs y ≡ 0 = λ y lo hi.
      zero_factor F L y (value_at F cs y) lo (omega (arith, size-above F L)) (value_at-lt F L cs y bytes.1)
      (ap (λ (k : ℕ). bit_xor k (product F y (value_at F cs y))) (sym constant) ∙ none y (omega (arith, size-above F L))) in
      let all : (y : ℕ) → value_at F cs y ≡ 0 =
      zero_everywhere F L cs (ascending 1 (size F - 1)) (omega (arith, length-ascending (size F - 1) 1)) bytes.1
      (points-ascending F (size F - 1) 1 (omega (arith, size-above F L))) (roots-ascending cs (size F - 1) 1 elsewhere) in
      ap₂ bit_xor (all x) (ap (product F x) (zero_derivative cs (omega arith) bytes.1 (λ y l. all y) x) ∙ product-zero F L x)

  -- polynomials that agree at as many points as they have coefficients have one derivative
  pub same_derivative : (ps qs : List ℕ) (n : ℕ) → length ps ≤ n → length qs ≤ n → n ≤ size F → AreCoefficients F ps → AreCoefficients F qs
      → ((x : ℕ) → x < n → value_at F ps x ≡ value_at F qs x) → (x : ℕ) → derivative_at F ps x ≡ derivative_at F qs x
  same_derivative ps qs n hp hq few bp bq same x =
      let short : length (sum ps qs) ≤ n = omega (arith, length-sum F L ps qs) in
      let bytes : AreCoefficients F (sum ps qs) = AreCoefficients-sum F L ps qs bp bq in
      let roots : AreRoots F L (sum ps qs) (ascending 0 n) =
      roots-ascending (sum ps qs) n 0 (λ y lo hi. value_at-sum F L ps qs y ∙ ap (λ (v : ℕ). bit_xor v (value_at F qs y)) (same y (omega arith)) ∙ xor_self (value_at F qs y)) in
      let all : (y : ℕ) → value_at F (sum ps qs) y ≡ 0 =
      zero_everywhere F L (sum ps qs) (ascending 0 n) (omega (arith, length-ascending n 0)) bytes (points-ascending F n 0 (omega arith)) roots in
      xor_zero-same (derivative_at F ps x) (derivative_at F qs x)
      (sym (derivative_at-sum F L ps qs x) ∙ zero_derivative (sum ps qs) (omega arith) bytes (λ y l. all y) x)
