-- A message in a field of another one: bytes behind their length, read to their end.
use Rattle.std.specs.Prelude.{ℕ, ◌+◌, ◌*◌, List, ◌++◌, length, Bool, Option, Some, None, Result, Ok, Err, if◌then◌else◌}
use Rattle.proto_fields.specs.Varints.{varint}
use Rattle.proto_fields.specs.Canonical.{begins_part, canonical_number, canonical_part}
use Rattle.celestia_pb.specs.Reading.{or_left}

-- ---- numbers

-- a number that was read of bytes, where it passes a test
abbrev pub passing : (ℕ → Bool) → List ℕ → Result (ℕ × List ℕ) ℕ → Result (ℕ × List ℕ) ℕ
passing test bytes (Ok read) = if test read.0 then Ok read else Err (length bytes)
passing test bytes (Err left) = Err left

-- the number of a field, 0 where the field isn't there, which passes a test, and what follows
abbrev pub number_left : (ℕ → Bool) → ℕ → List ℕ → Result (ℕ × List ℕ) ℕ
number_left test n bytes = passing test bytes (or_left bytes (canonical_number n bytes))

-- ---- messages

-- what a message says; where a field in it is wrong, what follows the message is left besides
abbrev pub before_rest : {A : Type 0} → List ℕ → Result A ℕ → Result (Option A × List ℕ) ℕ
before_rest rest (Ok value) = Ok (Some value, rest)
before_rest rest (Err left) = Err (left + length rest)

-- the bytes of a message, read by `one`, which is given what follows them
abbrev pub inside : {A : Type 0} → (List ℕ → List ℕ → Result A ℕ) → Result (List ℕ × List ℕ) ℕ → Result (Option A × List ℕ) ℕ
inside one (Ok read) = before_rest read.1 (one read.1 read.0)
inside one (Err left) = Err left

-- the message in a field of this number, none where the field isn't there, and what follows
abbrev pub optional_message : {A : Type 0} → (List ℕ → List ℕ → Result A ℕ) → ℕ → List ℕ → Result (Option A × List ℕ) ℕ
optional_message one n bytes = if begins_part n bytes then inside one (or_left bytes (canonical_part n bytes)) else Ok (None, bytes)

-- the tag and the length of a field of so many bytes
abbrev pub field_front : ℕ → ℕ → List ℕ
field_front n size = varint (8 * n + 2) ++ varint size
