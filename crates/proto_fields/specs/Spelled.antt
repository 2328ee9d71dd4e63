-- Fields in their one spelling: shortest varints (protobuf, "Encoding").
use Rattle.std.specs.Prelude.{ℕ, ◌+◌, ◌*◌, List, ◌++◌, length}
use Rattle.proto_fields.specs.Varints.{varint}

-- bytes behind their length
abbrev pub text : List ℕ → List ℕ
text bytes = varint (length bytes) ++ bytes

-- a field of bytes, also of no bytes
abbrev pub bytes_field : ℕ → List ℕ → List ℕ
bytes_field n bytes = varint (8 * n + 2) ++ text bytes

-- a field of a number, also of 0
abbrev pub number_field : ℕ → ℕ → List ℕ
number_field n value = varint (8 * n) ++ varint value

-- how many bytes a field of so many bytes takes
abbrev pub field_size : ℕ → ℕ → ℕ
field_size n len = length (varint (8 * n + 2)) + (length (varint len) + len)

-- and a field of this number
abbrev pub number_size : ℕ → ℕ → ℕ
number_size n value = length (varint (8 * n)) + length (varint value)
