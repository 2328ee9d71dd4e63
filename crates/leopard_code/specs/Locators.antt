-- What lost shares are found by: the missing positions, their locator, and formal derivatives.
use Rattle.std.specs.Prelude.{◌≡◌, ℕ, zero, suc, ◌<◌, ◌*◌, ◌==◌, IsTrue, List, [], ◌∷◌, length, bit_xor, slice_index, if◌then◌else◌}
use Rattle.gf_cantor.specs.Field.{Field, label, power, product, size}
use Rattle.namespace_id.specs.declared.shares.Share.{Share}
use Rattle.label_polynomial.specs.Polynomial.{value_at, AreCoefficients}
use Rattle.label_polynomial.specs.Derivatives.{derivative_at}
use Rattle.lch_fft.specs.Readings.{LabelReading}
use Rattle.lch_fft.specs.Transforms.{value, column}
use Rattle.namespace_id.specs.Cells.{is_width}

-- those of n positions from the first on that are not among ascending known ones
unfoldable pub missing_from : ℕ → ℕ → List ℕ → List ℕ
missing_from first zero known = []
missing_from first (suc n) [] = first ∷ missing_from (suc first) n []
missing_from first (suc n) (p ∷ known) =
    if p == first then missing_from (suc first) n known else first ∷ missing_from (suc first) n (p ∷ known)

-- the difference of two points, and 1 of a point and itself
abbrev pub difference : ℕ → ℕ → ℕ
difference x r = if x == r then 1 else bit_xor x r

-- the product of the differences of x and the other points: the value of their locator, and at a point that of its derivative
unfoldable pub apart_from : Field → List ℕ → ℕ → ℕ
apart_from f [] x = 1
apart_from f (r ∷ rs) x = product f (difference x r) (apart_from f rs x)

-- the label of x to an exponent
abbrev pub label_of_power : Field → ℕ → ℕ
label_of_power f exponent = label f (power f exponent)

-- each new column has the values at 0, 1, .. of the derivative of a polynomial that takes the old labels there
abbrev pub AreDerivatives : LabelReading → List Share → List Share → Type 0
AreDerivatives r old new = (c : ℕ) → c < r.columns → (cs : List ℕ) × (length cs ≡ length old) × AreCoefficients r.field cs
    × ((x : ℕ) → x < length old → value_at r.field cs x ≡ slice_index (column r c old) x)
    × ((x : ℕ) → x < length old → derivative_at r.field cs x ≡ slice_index (column r c new) x)

-- in a column, the sum of d_j * X_j with the new coefficients is the formal derivative of that with the old ones: of
-- the polynomial that takes its values
pub record IsFormalDerivative (r : LabelReading) (old new : List Share) (c : ℕ) : Type 0 where
  pub polynomial : List ℕ
  pub count : length polynomial ≡ length old
  pub labels : AreCoefficients r.field polynomial
  pub values : (x : ℕ) → x < size r.field → value_at r.field polynomial x ≡ value r.field (column r c old) x
  pub slopes : (x : ℕ) → x < size r.field → derivative_at r.field polynomial x ≡ value r.field (column r c new) x

-- a place for an exponent at each position of a codeword
pub record IsRoom (k : ℕ) (exponents : List ℕ) : Type 0 where
  pub width : IsTrue (is_width k)
  pub size : length exponents ≡ 2 * k
