-- The formal derivative of the polynomial that the sum of d_j * X_j is.
use Rattle.std.proofs.Common.{◌≡◌, ◌∙◌, ℕ, zero, suc, ◌+◌, ◌/◌, ◌^◌, ◌<◌, ◌≤◌, List, [], ◌∷◌, length, take, drop, sym, ap, ap₂, subst, arith, IsTrue}
use Rattle.std.specs.Prelude.{bit_xor}
use Rattle.std.specs.Int.Bits.{xor_assoc, xor_self}
use Rattle.gf_cantor.proofs.Laws.{size-pos, product_comm, product-zero, one-product}
use Rattle.label_polynomial.specs.Polynomial.{value_at, AreCoefficients}
use Rattle.label_polynomial.specs.Derivatives.{derivative_at}
use Rattle.label_polynomial.proofs.Products.{multiplied}
use Rattle.label_polynomial.proofs.Derived.{derivative_at-sum, derivative_at-multiplied}
use Rattle.namespace_id.specs.declared.shares.Share.{Share}
use Rattle.namespace_id.specs.Shares.{AreShares}
use Rattle.lch_fft.specs.Transforms.{is_count, value, Evaluates}
use Rattle.lch_fft.specs.Butterflies.{bytes_sum, transform_halvings}
use Rattle.lch_fft.specs.Derivatives.{slopes, IsDerived}
use Rattle.lch_fft.proofs.CountLemmas.{power_halvings, halvings-le}
use Rattle.lch_fft.proofs.DeriveLemmas.{is_slopes}
use Rattle.lch_fft.proofs.ByteLemmas.{length-bytes_sum}
use Rattle.lch_fft.proofs.SubspaceLemmas.{subspace_shifts}
use Rattle.lch_fft.proofs.SumLemmas.{sum_from-lt, sum_from-sum, value_one, value_halves}
use Rattle.lch_fft.proofs.PlaceLemmas.{half_front, half_back}
use Rattle.lch_fft.proofs.SlopeLemmas.{length-slopes}
use Rattle.lch_fft.specs.Transforms.{column}
use Rattle.leopard_code.specs.Locators.{AreDerivatives, IsFormalDerivative}
use Rattle.lch_fft.proofs.ColumnLemmas.{length-column}
use Rattle.leopard_code.proofs.PointLemmas.{column_labels}
use Rattle.leopard_code.proofs.NovelLemmas.{subspace_polynomial, value_at-subspace, coefficients, length-coefficients, AreCoefficients-coefficients, value_at-coefficients, AreCoefficients-front, AreCoefficients-back}
use Rattle.gf_cantor.specs.Field.{product, bits, size}
use Rattle.lch_fft.specs.Readings.{LabelReading, AreReadingLaws}

module _ (R : LabelReading) (L : AreReadingLaws R) where
  -- each s_i has the derivative 1
  pub derivative_at-subspace : (i x : ℕ) → derivative_at R.field (subspace_polynomial R.field L.laws i) x ≡ 1
  unfolding subspace_polynomial derivative_at value_at
  derivative_at-subspace zero x =
      ap (λ (z : ℕ). bit_xor (bit_xor 1 z) (product R.field x z)) (product-zero R.field L.laws x) ∙ ap (bit_xor 1) (product-zero R.field L.laws x)
  derivative_at-subspace (suc i) x =
      let s : List ℕ = subspace_polynomial R.field L.laws i in
      let v : ℕ = value_at R.field s x in
      derivative_at-sum R.field L.laws (multiplied R.field L.laws s s) s x
      ∙ ap₂ bit_xor
      (derivative_at-multiplied R.field L.laws s s x
      ∙ ap (bit_xor (product R.field (derivative_at R.field s x) v)) (product_comm R.field L.laws v (derivative_at R.field s x))
      ∙ xor_self (product R.field (derivative_at R.field s x) v))
      (derivative_at-subspace i x)

  -- the sum of a 0 is 0
  zero_value : (x : ℕ) → value R.field (0 ∷ []) x ≡ 0
  zero_value x = value_one R.field L.laws 0 x (size-pos R.field L.laws)

  -- the derivative of a constant is 0
  derivative_at-one : (ds : List ℕ) (x : ℕ) → length ds ≡ 1 → derivative_at R.field ds x ≡ value R.field (0 ∷ []) x
  unfolding derivative_at value_at
  derivative_at-one [] x h = absurd (omega arith)
  derivative_at-one (d ∷ []) x h = product-zero R.field L.laws x ∙ sym (zero_value x)
  derivative_at-one (d ∷ e ∷ ds) x h = absurd (omega arith)

  -- the derivative by halves has the values of the formal derivative
  pub derivative_at-coefficients : (b : ℕ) (ds : List ℕ) (x : ℕ) → b ≤ bits R.field → x < size R.field → length ds ≡ 2 ^ b → AreCoefficients R.field ds
      → derivative_at R.field (coefficients R.field L.laws b ds) x ≡ value R.field (slopes b ds) x
  unfolding coefficients slopes
  derivative_at-coefficients zero ds x hb hx h k = derivative_at-one ds x h
  derivative_at-coefficients (suc b) ds x hb hx h k =
      let front : List ℕ = take (2 ^ b) ds in
      let back : List ℕ = drop (2 ^ b) ds in
      let lf : length (take (2 ^ b) ds) ≡ 2 ^ b = half_front b ds h in
      let lb : length (drop (2 ^ b) ds) ≡ 2 ^ b = half_back b ds h in
      let low : List ℕ = slopes b front in
      let high : List ℕ = slopes b back in
      let ll : length (slopes b front) ≡ 2 ^ b = length-slopes b front lf in
      let lh : length (slopes b back) ≡ 2 ^ b = length-slopes b back lb in
      let v : ℕ = value R.field back x in
      let rest : ℕ = product R.field (x / 2 ^ b) (value R.field high x) in
      derivative_at-sum R.field L.laws (coefficients R.field L.laws b front) (multiplied R.field L.laws (subspace_polynomial R.field L.laws b) (coefficients R.field L.laws b back)) x
      ∙ ap₂ bit_xor (derivative_at-coefficients b front x (omega arith) hx lf (AreCoefficients-front R.field L.laws (2 ^ b) ds k))
      (derivative_at-multiplied R.field L.laws (subspace_polynomial R.field L.laws b) (coefficients R.field L.laws b back) x
      ∙ ap₂ bit_xor
      (ap₂ (product R.field) (derivative_at-subspace b x) (value_at-coefficients R.field L.laws b back x (omega arith) hx lb (AreCoefficients-back R.field L.laws (2 ^ b) ds k))
      ∙ one-product R.field L.laws v (sum_from-lt R.field L.laws 0 back x))
      (ap₂ (product R.field) (value_at-subspace R.field L.laws b x hx ∙ subspace_shifts R.field L.laws b x hx)
      (derivative_at-coefficients b back x (omega arith) hx lb (AreCoefficients-back R.field L.laws (2 ^ b) ds k))))
      ∙ sym (xor_assoc (value R.field low x) v rest)
      ∙ ap (λ (z : ℕ). bit_xor z rest) (sym (sum_from-sum R.field L.laws 0 low back x (ll ∙ sym lb)))
      ∙ sym (value_halves R.field L.laws b (bytes_sum low back) high x (omega arith) hx (length-bytes_sum low back (2 ^ b) ll lb) lh)

  -- derived coefficients are those of the formal derivative
  pub formal_derivative : (old new : List Share) (b : ℕ) → IsTrue (is_count (length old)) → length old ≤ size R.field → AreShares old → IsDerived R old new
      → b < R.columns → IsFormalDerivative R old new b
  formal_derivative old new b count wide shares steps hb =
      let d : ℕ = transform_halvings (length old) in
      let ds : List ℕ = column R b old in
      let few : transform_halvings (length old) ≤ bits R.field = halvings-le (length old) (bits R.field) count wide in
      let power : 2 ^ transform_halvings (length old) ≡ length old = power_halvings (length old) count in
      let as_many : length (column R b old) ≡ 2 ^ transform_halvings (length old) = length-column R L b old ∙ sym power in
      let bytes : AreCoefficients R.field (column R b old) = column_labels R L b old shares in record {
        polynomial = coefficients R.field L.laws d ds;
        count = length-coefficients R.field L.laws d ds as_many ∙ power;
        labels = AreCoefficients-coefficients R.field L.laws d ds bytes;
        values = λ x hx. value_at-coefficients R.field L.laws d ds x few hx as_many bytes;
        slopes = λ x hx. derivative_at-coefficients d ds x few hx as_many bytes
            ∙ ap (λ (l : List ℕ). value R.field l x) (sym (is_slopes R L old new b count steps hb));
      }

  -- from values through the coefficients, and those of the derivative, to its values
  pub derivatives : (old middle derived new : List Share) → IsTrue (is_count (length old)) → length old ≤ size R.field → AreShares middle
      → Evaluates R 0 middle old → IsDerived R middle derived → Evaluates R 0 derived new → AreDerivatives R old new
  derivatives old middle derived new count wide shares values steps found b hb =
      let n : ℕ = length old in
      let d : ℕ = transform_halvings (length old) in
      let ds : List ℕ = column R b middle in
      let long : length middle ≡ length old = sym values.count in
      let few : transform_halvings (length old) ≤ bits R.field = halvings-le (length old) (bits R.field) count wide in
      let power : 2 ^ transform_halvings (length old) ≡ length old = power_halvings (length old) count in
      let as_many : length (column R b middle) ≡ 2 ^ transform_halvings (length old) = length-column R L b middle ∙ long ∙ sym power in
      let bytes : AreCoefficients R.field (column R b middle) = column_labels R L b middle shares in
      let place : (x : ℕ) → x ≡ 0 + x = λ x. omega arith in (
        coefficients R.field L.laws d ds,
        length-coefficients R.field L.laws d ds as_many ∙ power,
        AreCoefficients-coefficients R.field L.laws d ds bytes,
        (λ x hx. value_at-coefficients R.field L.laws d ds x few (omega arith) as_many bytes ∙ ap (value R.field ds) (place x) ∙ sym (values.labels b x hb hx)),
        (λ x hx.
            derivative_at-coefficients d ds x few (omega arith) as_many bytes
            ∙ ap (λ (m : ℕ). value R.field (slopes (transform_halvings m) ds) x) (sym long)
            ∙ ap (λ (l : List ℕ). value R.field l x) (sym (is_slopes R L middle derived b (subst (λ (m : ℕ). IsTrue (is_count m)) (sym long) count) steps hb))
            ∙ ap (value R.field (column R b derived)) (place x)
            ∙ sym (found.labels b x hb (omega (arith, found.count, steps.count)))),
      )
