-- The tables of a factor: its products with the halves of the bytes of a label.
use Rattle.std.specs.Prelude.{◌≡◌, ℕ, ◌-◌, ◌*◌, ◌/◌, ◌%◌, ◌^◌, ◌<◌, List, nat_lt, slice_index, if◌then◌else◌}
use Rattle.gf_cantor.specs.Field.{product, byte_field, word_field}

-- the products with 0, 1, .., 15, and those with 0, 16, .., 240
pub record AreByteTables (by : ℕ) (low high : List ℕ) : Type 0 where
  pub lows : (n : ℕ) → n < 16 → slice_index low n ≡ product byte_field by n
  pub highs : (n : ℕ) → n < 16 → slice_index high n ≡ product byte_field by (16 * n)

-- the factor that an entry stands for: a half of a byte at its place in a word
unfoldable pub factor : ℕ → ℕ
factor i = i % 16 * 16 ^ (i / 16)

-- what an entry of the tables of a factor of words is: first the lower bytes of all products, and then the higher ones
unfoldable pub table_entry : ℕ → ℕ → ℕ
table_entry i by = if nat_lt i 64 then product word_field by (factor i) % 256 else product word_field by (factor (i - 64)) / 256
