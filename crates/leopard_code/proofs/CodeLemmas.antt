-- Which widths have a code, and over which field.
use Rattle.std.proofs.Common.{◌≡◌, ℕ, ◌*◌, ◌<◌, ◌≤◌, Bool, sym, ap, subst, inl, inr, arith, IsTrue, if◌then◌else◌}
use Rattle.std.proofs.lemmas.Bool.{cases_lt, lt-ltb, le-ltb}
use Rattle.std.proofs.lemmas.Bool.Decides.{nat_tests}
use Rattle.gf_cantor.specs.Field.{size, byte_field, word_field}
use Rattle.namespace_id.specs.Cells.{is_width}
use Rattle.lch_fft.specs.Readings.{LabelReading, AreReadingLaws, byte_reading, word_reading}
use Rattle.lch_fft.specs.ReadingLaws.{byte_reading_laws, word_reading_laws}
use Rattle.lch_fft.specs.Transforms.{is_count}
use Rattle.leopard_code.specs.Codewords.{reading_of, HasCode}

-- up to width 128 shares are read as bytes
pub reads_bytes : (k : ℕ) → k ≤ 128 → byte_reading ≡ reading_of k
unfolding reading_of
reads_bytes k h = sym (ap (λ (t : Bool). if t then word_reading else byte_reading) (le-ltb 128 k h))

-- and as words above
pub reads_words : (k : ℕ) → 128 < k → word_reading ≡ reading_of k
unfolding reading_of
reads_words k h = sym (ap (λ (t : Bool). if t then word_reading else byte_reading) (lt-ltb 128 k h))

-- a fact of both readings is one of that of each width
of_each : (P : LabelReading → Type 0) (k : ℕ) → (k ≤ 128 → P byte_reading) → (128 < k → P word_reading) → P (reading_of k)
of_each P k bytes words = elim (cases_lt 128 k) [
  | inl above ↦ subst P (reads_words k above) (words above)
  | inr low ↦ subst P (reads_bytes k low) (bytes low)
]

-- either has the laws
pub reading_laws : (k : ℕ) → AreReadingLaws (reading_of k)
reading_laws k = of_each AreReadingLaws k (λ low. byte_reading_laws) (λ above. word_reading_laws)

-- a width is at most 512, and not 0
pub code_width-le : (k : ℕ) → IsTrue (is_width k) → k ≤ 512
code_width-le k width = grind (arith, nat_tests)

pub code_width-pos : (k : ℕ) → IsTrue (is_width k) → 0 < k
code_width-pos k width = grind (arith, nat_tests)

-- a transform may have its length
pub code_count : (k : ℕ) → IsTrue (is_width k) → IsTrue (is_count k)
code_count k width = grind (arith, nat_tests)

-- and twice its length
pub double_code_count : (k : ℕ) → IsTrue (is_width k) → IsTrue (is_count (2 * k))
double_code_count k width = grind (arith, nat_tests)

-- a label stands for each of the 2k points
labels_fit : (k : ℕ) → IsTrue (is_width k) → 2 * k ≤ size (reading_of k).field
unfolding byte_reading byte_field word_reading word_field
labels_fit k width =
    of_each (λ (r : LabelReading). 2 * k ≤ size r.field) k
    (λ low. let few : 2 * k ≤ 256 = omega arith in few)
    (λ above. let few : 2 * k ≤ 65536 = omega (arith, code_width-le k width) in few)

-- so the width has a code over its reading
pub width_code : (k : ℕ) → IsTrue (is_width k) → HasCode (reading_of k).field k
width_code k width = record { count = double_code_count k width; fits = labels_fit k width }

-- the same of a reading that is the width's
pub code_fits : (r : LabelReading) (k : ℕ) → IsTrue (is_width k) → r ≡ reading_of k → 2 * k ≤ size r.field
code_fits r k width same = subst (λ (s : LabelReading). 2 * k ≤ size s.field) (sym same) (labels_fit k width)
