-- What transforms are determined by.
use Rattle.std.specs.Prelude.{◌≡◌, ◌+◌, ◌%◌, ◌≤◌, ℕ, List, IsTrue, length}
use Rattle.gf_cantor.specs.Field.{size}
use Rattle.namespace_id.specs.Shares.{AreShares}
use Rattle.namespace_id.specs.declared.shares.Share.{Share}
use Rattle.lch_fft.specs.Readings.{LabelReading}
use Rattle.lch_fft.specs.Transforms.{is_count, Evaluates}

-- values at the points of an aligned subspace come from one list of coefficients
abbrev pub OneListOfCoefficients : LabelReading → Type 0
OneListOfCoefficients r = (shift : ℕ) (coefficients others values : List Share)
    → IsTrue (is_count (length values)) → shift % length values ≡ 0 → shift + length values ≤ size r.field
    → AreShares coefficients → AreShares others → Evaluates r shift coefficients values
    → Evaluates r shift others values → coefficients ≡ others
