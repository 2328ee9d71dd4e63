-- The derivative of a sum of multiples of the X_j.
use Rattle.std.specs.Prelude.{◌≡◌, ℕ, zero, suc, ◌+◌, ◌/◌, ◌%◌, ◌^◌, ◌<◌, ◌==◌, List, [], ◌∷◌, ◌++◌, take, drop, length, bit_xor, slice_index, if◌then◌else◌}
use Rattle.namespace_id.specs.declared.shares.Share.{Share}
use Rattle.lch_fft.specs.Readings.{LabelReading}
use Rattle.lch_fft.specs.Transforms.{column}
use Rattle.lch_fft.specs.Butterflies.{bytes_sum}

-- the sum of the entries m + 2^i over those i below n whose bit isn't set in m; an entry past the end
-- of the list is 0
unfoldable pub raised : ℕ → List ℕ → ℕ → ℕ
raised zero ds m = 0
raised (suc i) ds m = bit_xor (raised i ds m) (if m / 2 ^ i % 2 == 0 then slice_index ds (m + 2 ^ i) else 0)

-- in each column, entry m is the sum of the entries m + 2^i over all i whose bit isn't set in m
pub record IsDerived (r : LabelReading) (old new : List Share) : Type 0 where
  pub count : length new ≡ length old
  pub labels : (c m : ℕ) → c < r.columns → m < length new
      → slice_index (column r c new) m ≡ raised (length new) (column r c old) m

-- the same by halves, of 2^depth coefficients
unfoldable pub slopes : ℕ → List ℕ → List ℕ
slopes zero ds = 0 ∷ []
slopes (suc b) ds = bytes_sum (slopes b (take (2 ^ b) ds)) (drop (2 ^ b) ds) ++ slopes b (drop (2 ^ b) ds)
