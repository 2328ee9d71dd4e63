-- Laws of varints and of fields.
use Rattle.std.specs.Prelude.{◌≡◌, ◌↔◌, ℕ, ◌<◌, ◌≤◌, ◌^◌, true, List, [], ◌∷◌, ◌++◌, length, Some, None, option_map}
use Rattle.proto_fields.specs.Varints.{IsVarint, varint, number_at}
use Rattle.proto_fields.specs.Fields.{FieldParts, bytes_value, number_value, is_field_number, field_at, fields_of, last_of, all_bytes, all_numbers, last_bytes, last_number}
use Rattle.proto_fields.specs.Spelled.{bytes_field, number_field, field_size, number_size}

-- ---- varints

-- a number is read exactly where a varint of it is at the front, so in one way
abbrev pub ReadInOneWay : Type 0
ReadInOneWay = (bytes rest : List ℕ) (n : ℕ)
    → (number_at bytes ≡ Some (n, rest)) ↔ ((front : List ℕ) × (bytes ≡ front ++ rest) × IsVarint front n)

-- the shortest varint of a number is one of it
abbrev pub ShortestIsVarint : Type 0
ShortestIsVarint = (n : ℕ) → n < 2 ^ 64 → IsVarint (varint n) n

-- and no other is shorter
abbrev pub ShortestIsShortest : Type 0
ShortestIsShortest = (n : ℕ) (bytes : List ℕ) → IsVarint bytes n → length (varint n) ≤ length bytes

-- ---- fields that were written

-- a field of bytes is read back, whatever follows it
abbrev pub BytesFieldIsRead : Type 0
BytesFieldIsRead = (n : ℕ) (bytes rest : List ℕ) → is_field_number n ≡ true → length bytes < 2 ^ 64
    → field_at (bytes_field n bytes ++ rest) ≡ Some (record { number = n; value = bytes_value bytes }, rest)

-- and so is a field of a number
abbrev pub NumberFieldIsRead : Type 0
NumberFieldIsRead = (n value : ℕ) (rest : List ℕ) → is_field_number n ≡ true → value < 2 ^ 64
    → field_at (number_field n value ++ rest) ≡ Some (record { number = n; value = number_value value }, rest)

-- fields take as many bytes as counted
abbrev pub SizeIsLength : Type 0
SizeIsLength = (n : ℕ) (bytes : List ℕ) → length (bytes_field n bytes) ≡ field_size n (length bytes)

abbrev pub NumberSizeIsLength : Type 0
NumberSizeIsLength = (n value : ℕ) → length (number_field n value) ≡ number_size n value

-- ---- fields one after another

-- what is read of a field doesn't depend on what follows it
abbrev pub ReadWhateverFollows : Type 0
ReadWhateverFollows = (bytes rest more : List ℕ) (field : FieldParts) → field_at bytes ≡ Some (field, rest)
    → field_at (bytes ++ more) ≡ Some (field, rest ++ more)

-- a field takes a byte at least
abbrev pub FieldIsShorter : Type 0
FieldIsShorter = (bytes rest : List ℕ) (field : FieldParts) → field_at bytes ≡ Some (field, rest) → length rest < length bytes

-- no bytes are no fields
abbrev pub NoFields : Type 0
NoFields = fields_of [] ≡ Some []

-- bytes are the field at their front, and then the fields that what follows is
abbrev pub FirstField : Type 0
FirstField = (bytes rest : List ℕ) (field : FieldParts) → field_at bytes ≡ Some (field, rest)
    → fields_of bytes ≡ option_map (λ fields. field ∷ fields) (fields_of rest)

-- and none where no field is at the front
abbrev pub NoField : Type 0
NoField = (byte : ℕ) (bytes : List ℕ) → field_at (byte ∷ bytes) ≡ None → fields_of (byte ∷ bytes) ≡ None

-- fields behind fields are all of them
abbrev pub FieldsInARow : Type 0
FieldsInARow = (front back : List ℕ) (fields others : List FieldParts) → fields_of front ≡ Some fields
    → fields_of back ≡ Some others → fields_of (front ++ back) ≡ Some (fields ++ others)

-- ---- the last of a number

-- of fields behind fields, all that have this number are those of both
abbrev pub AllBytesInARow : Type 0
AllBytesInARow = (n : ℕ) (fields others : List FieldParts)
    → all_bytes n (fields ++ others) ≡ all_bytes n fields ++ all_bytes n others

abbrev pub AllNumbersInARow : Type 0
AllNumbersInARow = (n : ℕ) (fields others : List FieldParts)
    → all_numbers n (fields ++ others) ≡ all_numbers n fields ++ all_numbers n others

-- the last of several fields counts: one that is appended does if it has this number and wire, else those before it
abbrev pub LastBytesCount : Type 0
LastBytesCount = (n : ℕ) (fields others : List FieldParts)
    → last_bytes n (fields ++ others) ≡ last_of (last_bytes n fields) (all_bytes n others)

abbrev pub LastNumberCounts : Type 0
LastNumberCounts = (n : ℕ) (fields others : List FieldParts)
    → last_number n (fields ++ others) ≡ last_of (last_number n fields) (all_numbers n others)
