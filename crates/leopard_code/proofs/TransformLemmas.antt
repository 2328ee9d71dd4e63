-- Originals and what both transforms make of them are a codeword.
use Rattle.std.proofs.Common.{◌≡◌, ◌∙◌, ℕ, zero, suc, ◌+◌, ◌*◌, ◌<◌, ◌≤◌, List, [], ◌∷◌, ◌++◌, length, get_or, ◌^◌, sym, ap, subst, arith, length-append, IsTrue}
use Rattle.namespace_id.specs.declared.shares.Share.{Share}
use Rattle.namespace_id.specs.Shares.{AreShares}
use Rattle.label_polynomial.specs.Polynomial.{value_at, PassesThrough}
use Rattle.lch_fft.specs.Transforms.{is_count, Evaluates}
use Rattle.lch_fft.specs.Butterflies.{transform_halvings}
use Rattle.lch_fft.proofs.CountLemmas.{power_halvings, halvings-le}
use Rattle.namespace_id.specs.Lists.{ascending}
use Rattle.namespace_id.proofs.ShareLemmas.{AreShares-append}
use Rattle.lch_fft.specs.Transforms.{column}
use Rattle.leopard_code.specs.Codewords.{points, IsCodewordOver}
use Rattle.leopard_code.proofs.NovelLemmas.{coefficients, length-coefficients, AreCoefficients-coefficients, value_at-coefficients}
use Rattle.lch_fft.proofs.ColumnLemmas.{length-column, column-append}
use Rattle.leopard_code.proofs.PointLemmas.{column_labels, takes-append}
use Rattle.gf_cantor.specs.Field.{bits, size}
use Rattle.lch_fft.specs.Readings.{LabelReading, AreReadingLaws}

module _ (R : LabelReading) (L : AreReadingLaws R) where
  -- values at the points from one on
  takes-values : (cs ys : List ℕ) (n first : ℕ) → length ys ≡ n → ((i : ℕ) → i < n → value_at R.field cs (first + i) ≡ get_or ys i 0) → PassesThrough R.field cs (ascending first n) ys
  unfolding PassesThrough ascending
  takes-values cs [] zero first e each = tt
  takes-values cs (y ∷ ys) zero first e each = absurd (omega arith)
  takes-values cs [] (suc n) first e each = absurd (omega arith)
  takes-values cs (y ∷ ys) (suc n) first e each =
      let here : first ≡ first + 0 = omega arith in (
        ap (value_at R.field cs) here ∙ each 0 (omega arith),
        takes-values cs ys n (suc first) (omega arith) (λ i l.
            let next : suc first + i ≡ first + suc i = omega arith in ap (value_at R.field cs) next ∙ each (suc i) (omega arith)),
      )

  -- a column of values is taken by the polynomial of the coefficients
  takes-column : (b k shift : ℕ) (ds vs : List Share) → b < R.columns → IsTrue (is_count k) → shift + k ≤ size R.field → length vs ≡ k → AreShares ds → Evaluates R shift ds vs
      → PassesThrough R.field (coefficients R.field L.laws (transform_halvings k) (column R b ds)) (ascending shift k) (column R b vs)
  takes-column b k shift ds vs hb count fits long shares given =
      let power : 2 ^ transform_halvings k ≡ k = power_halvings k count in
      let as_many : length (column R b ds) ≡ 2 ^ transform_halvings k = length-column R L b ds ∙ sym given.count ∙ long ∙ sym power in
      takes-values (coefficients R.field L.laws (transform_halvings k) (column R b ds)) (column R b vs) k shift (length-column R L b vs ∙ long)
      (λ i l. value_at-coefficients R.field L.laws (transform_halvings k) (column R b ds) (shift + i) (halvings-le k (bits R.field) count (omega arith)) (omega arith) as_many (column_labels R L b ds shares)
      ∙ sym (given.labels b i hb (omega arith)))

  -- originals, and the values at the first points of the polynomials that take them, are a codeword
  pub codeword_by_transforms : (k : ℕ) (originals middle recovery : List Share) → IsTrue (is_count k) → 2 * k ≤ size R.field → length originals ≡ k
      → AreShares originals → AreShares middle → AreShares recovery → Evaluates R k middle originals → Evaluates R 0 middle recovery
      → IsCodewordOver R k (originals ++ recovery)
  unfolding points
  codeword_by_transforms k originals middle recovery count fits long so sm sr back forth =
      let power : 2 ^ transform_halvings k ≡ k = power_halvings k count in
      let middle_long : length middle ≡ k = sym back.count ∙ long in
      let recovery_long : length recovery ≡ k = forth.count ∙ middle_long in
      record {
        count = omega (arith, length-append originals recovery);
        shares = AreShares-append originals recovery so sr;
        columns = λ b h.
            let ds : List ℕ = column R b middle in
            let as_many : length (column R b middle) ≡ 2 ^ transform_halvings k = length-column R L b middle ∙ middle_long ∙ sym power in (
              coefficients R.field L.laws (transform_halvings k) ds,
              length-coefficients R.field L.laws (transform_halvings k) ds as_many ∙ power,
              AreCoefficients-coefficients R.field L.laws (transform_halvings k) ds (column_labels R L b middle sm),
              subst (λ (l : List ℕ). PassesThrough R.field (coefficients R.field L.laws (transform_halvings k) ds) (ascending k k ++ ascending 0 k) l) (sym (column-append R L b originals recovery))
                  (takes-append R.field (coefficients R.field L.laws (transform_halvings k) ds) (ascending k k) (column R b originals) (ascending 0 k) (column R b recovery)
                  (takes-column b k k middle originals h count (omega arith) long sm back)
                  (takes-column b k 0 middle recovery h count (omega arith) recovery_long sm forth)),
            );
      }
