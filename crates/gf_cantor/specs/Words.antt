-- How words lie in a share: in blocks of 64 bytes, the lower bytes of 32 words and then the higher ones (docs/RULES.md,
-- "The word field").
use Rattle.std.specs.Prelude.{ℕ, ◌+◌, ◌*◌, ◌/◌, ◌%◌, List, slice_index}

-- the place of the lower byte of a word; the higher one stands 32 places behind
abbrev pub place : ℕ → ℕ
place i = 64 * (i / 32) + i % 32

-- the word at a place
unfoldable pub word : List ℕ → ℕ → ℕ
word bytes i = slice_index bytes (place i) + 256 * slice_index bytes (place i + 32)
