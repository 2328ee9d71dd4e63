-- Codewords: lists of 2k shares whose columns of labels are polynomials (docs/RULES.md, "The code").
use Rattle.std.specs.Prelude.{◌≡◌, ℕ, Bool, ◌&&◌, nat_lt, if◌then◌else◌, ◌<◌, ◌≤◌, IsTrue, ◌+◌, ◌-◌, ◌*◌, List, [], ◌∷◌, ◌++◌, map, length, bit_xor, slice_get, slice_index}
use Rattle.std.specs.List.{list_all}
use Rattle.gf_cantor.specs.Field.{Field, product, size}
use Rattle.namespace_id.specs.declared.shares.Share.{Share}
use Rattle.namespace_id.specs.Shares.{AreShares}
use Rattle.namespace_id.specs.Lists.{holds_along, ascending}
use Rattle.label_polynomial.specs.Polynomial.{AreCoefficients, PassesThrough}
use Rattle.lch_fft.specs.Readings.{LabelReading, byte_reading, word_reading}
use Rattle.lch_fft.specs.Transforms.{is_count, column}
use Rattle.lch_fft.specs.Butterflies.{multiple}
unfoldable pub use Rattle.lch_fft.specs.Butterflies.{bytes_sum}

-- the points of the positions: the originals stand at k up to 2k, the recovery shares at 0 up to k
unfoldable pub points : ℕ → List ℕ
points k = ascending k k ++ ascending 0 k

-- the point of one position
abbrev pub point : ℕ → ℕ → ℕ
point k pos = if nat_lt pos k then k + pos else pos - k

-- the points of some positions
abbrev pub points_at : ℕ → List ℕ → List ℕ
points_at k known = map (point k) known

-- a polynomial of k coefficients takes the labels at the points
abbrev pub IsColumn : Field → ℕ → List ℕ → Type 0
IsColumn f k labels = (cs : List ℕ) × (length cs ≡ k) × AreCoefficients f cs × PassesThrough f cs (points k) labels

-- 2k shares, k originals and then k recovery shares, each column of labels a polynomial
pub record IsCodewordOver (r : LabelReading) (k : ℕ) (word : List Share) : Type 0 where
  pub count : length word ≡ 2 * k
  pub shares : AreShares word
  pub columns : (c : ℕ) → c < r.columns → IsColumn r.field k (column r c word)

-- how the code of a width reads shares: as bytes up to width 128, and as words above
unfoldable pub reading_of : ℕ → LabelReading
reading_of k = if nat_lt 128 k then word_reading else byte_reading

-- the codewords of a width
abbrev pub IsCodeword : ℕ → List Share → Type 0
IsCodeword k word = IsCodewordOver (reading_of k) k word

-- whether k original shares have a code over a field: a transform may have twice their length, and a label stands for
-- each point
pub record HasCode (f : Field) (k : ℕ) : Type 0 where
  pub count : IsTrue (is_count (2 * k))
  pub fits : 2 * k ≤ size f

-- whether these are positions of a codeword, strictly ascending
abbrev pub are_positions : ℕ → List ℕ → Bool
are_positions k known = list_all (λ pos. nat_lt pos (2 * k)) known && holds_along nat_lt known

-- the shares stand in the list at the known positions
abbrev pub HasEntries : List ℕ → List Share → List Share → Type 0
HasEntries known shares word =
    (i : ℕ) → i < length known → slice_get word (slice_index known i) ≡ slice_get shares i

-- the bytewise xor of two shares
abbrev pub share_sum : Share → Share → Share
share_sum a b = record { 0 = bytes_sum a.0 b.0 }

-- the bytewise xor of two lists of shares, share by share
unfoldable pub shares_sum : List Share → List Share → List Share
shares_sum [] others = []
shares_sum (share ∷ shares) [] = []
shares_sum (share ∷ shares) (other ∷ others) = share_sum share other ∷ shares_sum shares others

-- each label of the new shares is the multiple of that of the old ones
pub record AreMultiples (r : LabelReading) (by : ℕ) (old new : List Share) : Type 0 where
  pub count : length new ≡ length old
  pub shares : AreShares new
  pub columns : (c : ℕ) → c < r.columns → column r c new ≡ multiple r.field by (column r c old)

-- the sum of the products of weights and labels
unfoldable pub weighted : Field → List ℕ → List ℕ → ℕ
weighted f [] ys = 0
weighted f (w ∷ ws) [] = 0
weighted f (w ∷ ws) (y ∷ ys) = bit_xor (product f w y) (weighted f ws ys)

-- the rows and the columns of a square of 2k by 2k shares
pub record AreLines (k : ℕ) (rows cols : ℕ → List Share) : Type 0 where
  pub row_count : (i : ℕ) → i < 2 * k → length (rows i) ≡ 2 * k
  pub col_count : (i : ℕ) → i < 2 * k → length (cols i) ≡ 2 * k
  pub same : (i j : ℕ) → i < 2 * k → j < 2 * k → slice_get (rows i) j ≡ slice_get (cols j) i
