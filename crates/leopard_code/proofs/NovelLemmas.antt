-- The sum of d_j * X_j is a polynomial with as many coefficients.
use Rattle.std.proofs.Common.{◌≡◌, ◌∙◌, ℕ, zero, suc, ◌+◌, ◌^◌, ◌<◌, ◌≤◌, List, [], ◌∷◌, length, take, drop, sym, ap, ap₂, arith, take-append-drop}
use Rattle.std.specs.Prelude.{bit_xor}
use Rattle.std.specs.Int.Bits.{xor_zero_r}
use Rattle.std.proofs.lemmas.Nat.{pow_pos}
use Rattle.gf_cantor.proofs.Laws.{product_comm, product-zero, one-product}
use Rattle.label_polynomial.specs.Polynomial.{value_at, AreCoefficients}
use Rattle.label_polynomial.proofs.Sums.{sum, value_at-sum, length-sum, AreCoefficients-sum}
use Rattle.label_polynomial.proofs.Products.{multiplied, value_at-multiplied, length-multiplied, AreCoefficients-multiplied}
use Rattle.lch_fft.specs.Transforms.{subspace, value}
use Rattle.lch_fft.proofs.SubspaceLemmas.{subspace_shifts}
use Rattle.lch_fft.proofs.SumLemmas.{value_one, value_halves}
use Rattle.lch_fft.proofs.PlaceLemmas.{double, half_front, half_back}
use Rattle.gf_cantor.specs.Field.{Field, product, bits, size}
use Rattle.gf_cantor.specs.Laws.{AreFieldLaws}

module _ (F : Field) (L : AreFieldLaws F) where
  -- the coefficients of s_i
  unfoldable pub subspace_polynomial : ℕ → List ℕ
  subspace_polynomial zero = 0 ∷ 1 ∷ []
  subspace_polynomial (suc i) = sum (multiplied F L (subspace_polynomial i) (subspace_polynomial i)) (subspace_polynomial i)

  -- s_i has degree 2^i
  pub length-subspace : (i : ℕ) → length (subspace_polynomial i) ≡ 2 ^ i + 1
  unfolding subspace_polynomial
  length-subspace zero = omega arith
  length-subspace (suc i) =
      let s : List ℕ = subspace_polynomial i in
      let half : length (subspace_polynomial i) ≡ 2 ^ i + 1 = length-subspace i in
      omega (arith, double i, length-sum F L (multiplied F L s s) s, length-multiplied F L s s (omega arith) (omega arith))

  -- the polynomial has the values of s_i
  pub value_at-subspace : (i x : ℕ) → x < size F → value_at F (subspace_polynomial i) x ≡ subspace F i x
  unfolding subspace_polynomial subspace value_at
  value_at-subspace zero x h = ap (λ (z : ℕ). product F x (bit_xor 1 z)) (product-zero F L x) ∙ product_comm F L x 1 ∙ one-product F L x h
  value_at-subspace (suc i) x h =
      let s : List ℕ = subspace_polynomial i in
      value_at-sum F L (multiplied F L s s) s x
      ∙ ap (λ (z : ℕ). bit_xor z (value_at F s x)) (value_at-multiplied F L s s x)
      ∙ ap (λ (z : ℕ). bit_xor (product F z z) z) (value_at-subspace i x h)

  -- the first coefficients are labels
  pub AreCoefficients-front : (n : ℕ) (ds : List ℕ) → AreCoefficients F ds → AreCoefficients F (take n ds)
  unfolding AreCoefficients
  AreCoefficients-front zero ds h = tt
  AreCoefficients-front (suc n) [] h = tt
  AreCoefficients-front (suc n) (d ∷ ds) h = (h.0, AreCoefficients-front n ds h.1)

  -- and those behind them
  pub AreCoefficients-back : (n : ℕ) (ds : List ℕ) → AreCoefficients F ds → AreCoefficients F (drop n ds)
  unfolding AreCoefficients
  AreCoefficients-back zero ds h = h
  AreCoefficients-back (suc n) [] h = tt
  AreCoefficients-back (suc n) (d ∷ ds) h = AreCoefficients-back n ds h.1

  -- the coefficients of a sum of 2^b multiples of the X_j
  unfoldable pub coefficients : ℕ → List ℕ → List ℕ
  coefficients zero ds = ds
  coefficients (suc b) ds =
      sum (coefficients b (take (2 ^ b) ds)) (multiplied F L (subspace_polynomial b) (coefficients b (drop (2 ^ b) ds)))

  -- there are as many coefficients as multiples
  pub length-coefficients : (b : ℕ) (ds : List ℕ) → length ds ≡ 2 ^ b → length (coefficients b ds) ≡ 2 ^ b
  unfolding coefficients
  length-coefficients zero ds h = h
  length-coefficients (suc b) ds h =
      let low : List ℕ = coefficients b (take (2 ^ b) ds) in
      let high : List ℕ = coefficients b (drop (2 ^ b) ds) in
      let front : length low ≡ 2 ^ b = length-coefficients b (take (2 ^ b) ds) (half_front b ds h) in
      let back : length high ≡ 2 ^ b = length-coefficients b (drop (2 ^ b) ds) (half_back b ds h) in
      let some : 0 < 2 ^ b = pow_pos b in
      omega (
        arith,
        double b,
        length-sum F L low (multiplied F L (subspace_polynomial b) high),
        length-subspace b,
        length-multiplied F L (subspace_polynomial b) high (omega (arith, length-subspace b)) (omega arith),
      )

  -- they are labels
  pub AreCoefficients-coefficients : (b : ℕ) (ds : List ℕ) → AreCoefficients F ds → AreCoefficients F (coefficients b ds)
  unfolding coefficients
  AreCoefficients-coefficients zero ds h = h
  AreCoefficients-coefficients (suc b) ds h =
      AreCoefficients-sum F L (coefficients b (take (2 ^ b) ds)) (multiplied F L (subspace_polynomial b) (coefficients b (drop (2 ^ b) ds)))
      (AreCoefficients-coefficients b (take (2 ^ b) ds) (AreCoefficients-front (2 ^ b) ds h))
      (AreCoefficients-multiplied F L (subspace_polynomial b) (coefficients b (drop (2 ^ b) ds)))

  -- one multiple is the constant
  value_at-one : (ds : List ℕ) (x : ℕ) → length ds ≡ 1 → AreCoefficients F ds → value_at F ds x ≡ value F ds x
  unfolding value_at AreCoefficients
  value_at-one [] x h k = absurd (omega arith)
  value_at-one (d ∷ []) x h k = ap (bit_xor d) (product-zero F L x) ∙ xor_zero_r d ∙ sym (value_one F L d x k.0)
  value_at-one (d ∷ e ∷ ds) x h k = absurd (omega arith)

  -- the polynomial has the values of the sum
  pub value_at-coefficients : (b : ℕ) (ds : List ℕ) (x : ℕ) → b ≤ bits F → x < size F → length ds ≡ 2 ^ b → AreCoefficients F ds
      → value_at F (coefficients b ds) x ≡ value F ds x
  unfolding coefficients
  value_at-coefficients zero ds x hb hx h k = value_at-one ds x h k
  value_at-coefficients (suc b) ds x hb hx h k =
      let front : List ℕ = take (2 ^ b) ds in
      let back : List ℕ = drop (2 ^ b) ds in
      value_at-sum F L (coefficients b front) (multiplied F L (subspace_polynomial b) (coefficients b back)) x
      ∙ ap₂ bit_xor (value_at-coefficients b front x (omega arith) hx (half_front b ds h) (AreCoefficients-front (2 ^ b) ds k))
      (value_at-multiplied F L (subspace_polynomial b) (coefficients b back) x
      ∙ ap₂ (product F) (value_at-subspace b x hx ∙ subspace_shifts F L b x hx)
      (value_at-coefficients b back x (omega arith) hx (half_back b ds h) (AreCoefficients-back (2 ^ b) ds k)))
      ∙ sym (value_halves F L b front back x (omega arith) hx (half_front b ds h) (half_back b ds h))
      ∙ ap (λ (es : List ℕ). value F es x) (take-append-drop (2 ^ b) ds)
