-- Additive transforms: sums of multiples of the polynomials X_j, and their values at blocks of points.
use Rattle.std.specs.Prelude.{◌≡◌, ℕ, zero, suc, ◌+◌, ◌/◌, ◌%◌, ◌<◌, ◌==◌, Bool, List, [], ◌∷◌, length, bit_xor, slice_index, if◌then◌else◌}
use Rattle.gf_cantor.specs.Field.{Field, product, bits}
use Rattle.namespace_id.specs.declared.shares.Share.{Share}
use Rattle.namespace_id.specs.Powers.{is_power}
use Rattle.lch_fft.specs.Readings.{LabelReading}

-- the subspace polynomials: s_0(x) = x, and s_(i+1)(x) = s_i(x)^2 + s_i(x)
unfoldable pub subspace : Field → ℕ → ℕ → ℕ
subspace f zero x = x
subspace f (suc i) x = bit_xor (product f (subspace f i x) (subspace f i x)) (subspace f i x)

-- the product of s_i, s_(i+1), .. over those of n bits of a number that are set, its lowest bit for s_i
unfoldable pub product_over : Field → ℕ → ℕ → ℕ → ℕ → ℕ
product_over f zero i j x = 1
product_over f (suc n) i j x = product f (if j % 2 == 1 then subspace f i x else 1) (product_over f n (suc i) (j / 2) x)

-- X_j, for j below the number of labels: the product of s_i over the set bits i of j
abbrev pub novel : Field → ℕ → ℕ → ℕ
novel f j x = product_over f (bits f) 0 j x

-- the sum of d_j * X_j, d_(j+1) * X_(j+1), .. at x, over a list of coefficients
unfoldable pub sum_from : Field → ℕ → List ℕ → ℕ → ℕ
sum_from f j [] x = 0
sum_from f j (d ∷ ds) x = bit_xor (product f d (novel f j x)) (sum_from f (suc j) ds x)

-- the sum of d_j * X_j at x, over all coefficients
abbrev pub value : Field → List ℕ → ℕ → ℕ
value f ds x = sum_from f 0 ds x

-- the labels in one column of each share
unfoldable pub column : LabelReading → ℕ → List Share → List ℕ
column r c [] = []
column r c (share ∷ shares) = r.label_at share.0 c ∷ column r c shares

-- in each column, entry i of the values is the sum of d_j * X_j at the point shift + i, for the coefficients d_j
pub record Evaluates (r : LabelReading) (shift : ℕ) (coefficients values : List Share) : Type 0 where
  pub count : length values ≡ length coefficients
  pub labels : (c i : ℕ) → c < r.columns → i < length values
      → slice_index (column r c values) i ≡ value r.field (column r c coefficients) (shift + i)

-- whether a transform may have this length: a power of two from 1 to 1,024
abbrev pub is_count : ℕ → Bool
is_count n = is_power n
