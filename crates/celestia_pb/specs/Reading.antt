-- Reading a message to its end: what it says, or how many bytes are left from the tag of the first field that is wrong on. None
-- are where the message ends: that is the place of a field that isn't there.
use Rattle.std.specs.Prelude.{◌≡◌, ℕ, ◌-◌, List, length, Option, Some, None, Result, Ok, Err}

-- a step behind what was read
abbrev pub then_read : {A B : Type 0} → (A → List ℕ → Result B ℕ) → Result (A × List ℕ) ℕ → Result B ℕ
then_read next (Ok read) = next read.0 read.1
then_read next (Err left) = Err left

-- what was read at the front of bytes; where nothing was, the field that is there is wrong
abbrev pub or_left : {A : Type 0} → List ℕ → Option A → Result A ℕ
or_left bytes None = Err (length bytes)
or_left bytes (Some read) = Ok read

-- the same, with the offset of the field that is wrong, in a message of so many bytes
abbrev pub with_offset : {A : Type 0} → ℕ → Result A ℕ → Result A ℕ
with_offset size (Ok value) = Ok value
with_offset size (Err left) = Err (size - left)

-- what a reader answered, seen by `view`, is what reading gives
abbrev pub ReadsMessage : {X Y : Type 0} → (X → Y) → Result X ℕ → Result Y ℕ → Type 0
ReadsMessage view (Ok x) read = read ≡ Ok (view x)
ReadsMessage view (Err left) read = read ≡ Err left
