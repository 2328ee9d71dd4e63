-- Byte strings as lists of numbers.
use Rattle.std.specs.Prelude.{ℕ, ◌≡◌, ◌<◌, List, length, slice_index}

-- each number of a byte string is below 256
abbrev pub AreBytes : List ℕ → Type 0
AreBytes bytes = (i : ℕ) → slice_index bytes i < 256

-- a byte string of this length
pub record IsString (size : ℕ) (text : List ℕ) : Type 0 where
  pub size_is : length text ≡ size
  pub fits : AreBytes text
