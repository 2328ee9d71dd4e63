-- How shares are read as labels of a field, column by column (docs/RULES.md, "The code").
use Rattle.std.specs.Prelude.{◌≡◌, ℕ, ◌<◌, List, bit_xor, slice_index}
use Rattle.gf_cantor.specs.Field.{Field, size, byte_field, word_field}
use Rattle.gf_cantor.specs.Laws.{AreFieldLaws}
use Rattle.gf_cantor.specs.Words.{word}
use Rattle.namespace_id.specs.declared.shares.Share.{Share}
use Rattle.namespace_id.specs.Bytes.{AreBytes}
use Rattle.namespace_id.specs.Shares.{IsShare}
use Rattle.namespace_id.specs.Sizes.{share_size}

-- a field, how many columns of its labels a share has, and how a column is read
pub record LabelReading : Type 0 where
  pub field : Field
  pub columns : ℕ
  -- the label in a column, of the bytes of a share
  pub label_at : List ℕ → ℕ → ℕ

-- each byte is a label
unfoldable pub byte_reading : LabelReading
byte_reading = record { field = byte_field; columns = share_size; label_at = λ bytes c. slice_index bytes c }

-- each word is one
unfoldable pub word_reading : LabelReading
word_reading = record { field = word_field; columns = 256; label_at = word }

-- what holds of a reading: labels are a field, and a share is a label in each column, any labels and no others
pub record AreReadingLaws (reading : LabelReading) : Type 0 where
  pub laws : AreFieldLaws reading.field
  pub below : (share : Share) → IsShare share → (c : ℕ) → reading.label_at share.0 c < size reading.field
  pub told : (share other : Share) → IsShare share → IsShare other
      → ((c : ℕ) → c < reading.columns → reading.label_at share.0 c ≡ reading.label_at other.0 c) → share ≡ other
  pub made : (f : ℕ → ℕ) → ((c : ℕ) → f c < size reading.field)
      → (share : Share) × IsShare share × ((c : ℕ) → c < reading.columns → reading.label_at share.0 c ≡ f c)
  -- the labels of a bytewise sum are the sums of the labels
  pub sum : (acc row new : List ℕ) → AreBytes acc → AreBytes row
      → ((b : ℕ) → b < share_size → slice_index new b ≡ bit_xor (slice_index acc b) (slice_index row b))
      → (c : ℕ) → c < reading.columns → reading.label_at new c ≡ bit_xor (reading.label_at acc c) (reading.label_at row c)
