-- A field has one spelling: what is written is read, what is read was written so, and lenient reading says the same of it.
use Rattle.std.specs.Prelude.{◌≡◌, ℕ, ◌*◌, ◌<◌, ◌^◌, false, List, ◌∷◌, ◌++◌, length, Some}
use Rattle.namespace_id.specs.Bytes.{AreBytes}
use Rattle.proto_fields.specs.Fields.{FieldParts, fields_of}
use Rattle.proto_fields.specs.Spelled.{bytes_field}
use Rattle.proto_fields.specs.Canonical.{number_text, bytes_text, number_fields, bytes_fields, part_field, begins, begins_part, canonical_number, canonical_bytes, canonical_part}

-- ---- what is written is read

-- a number, where no other field of its tag follows
abbrev pub NumberIsRead : Type 0
NumberIsRead = (n value : ℕ) (rest : List ℕ) → n < 16 → value < 2 ^ 64 → begins (8 * n) rest ≡ false
    → canonical_number n (number_text n value ++ rest) ≡ Some (value, rest)

-- bytes, where no other field of their tag follows
abbrev pub BytesAreRead : Type 0
BytesAreRead = (n : ℕ) (bytes rest : List ℕ) → n < 16 → length bytes < 2 ^ 64 → begins_part n rest ≡ false
    → canonical_bytes n (bytes_text n bytes ++ rest) ≡ Some (bytes, rest)

-- bytes, also none, whatever follows
abbrev pub PartIsRead : Type 0
PartIsRead = (n : ℕ) (bytes rest : List ℕ) → n < 16 → length bytes < 2 ^ 64
    → canonical_part n (bytes_field n bytes ++ rest) ≡ Some (bytes, rest)

-- ---- what is read was written so

-- a number
abbrev pub ReadIsNumber : Type 0
ReadIsNumber = (n value : ℕ) (bytes rest : List ℕ) → n < 16 → AreBytes bytes → canonical_number n bytes ≡ Some (value, rest)
    → (value < 2 ^ 64) × (bytes ≡ number_text n value ++ rest)

-- bytes
abbrev pub ReadAreBytes : Type 0
ReadAreBytes = (n : ℕ) (bytes part rest : List ℕ) → n < 16 → AreBytes bytes → canonical_bytes n bytes ≡ Some (part, rest)
    → (length part < 2 ^ 64) × (bytes ≡ bytes_text n part ++ rest)

-- bytes, also none
abbrev pub ReadIsPart : Type 0
ReadIsPart = (n : ℕ) (bytes part rest : List ℕ) → n < 16 → AreBytes bytes → canonical_part n bytes ≡ Some (part, rest)
    → (length part < 2 ^ 64) × (bytes ≡ bytes_field n part ++ rest)

-- ---- lenient reading says the same

-- of a number: its field, and then those that follow
abbrev pub NumberIsCommon : Type 0
NumberIsCommon = (n value : ℕ) (bytes rest : List ℕ) (fields : List FieldParts) → 0 < n → n < 16 → AreBytes bytes
    → canonical_number n bytes ≡ Some (value, rest) → fields_of rest ≡ Some fields
    → fields_of bytes ≡ Some (number_fields n value ++ fields)

-- of bytes
abbrev pub BytesAreCommon : Type 0
BytesAreCommon = (n : ℕ) (bytes part rest : List ℕ) (fields : List FieldParts) → 0 < n → n < 16 → AreBytes bytes
    → canonical_bytes n bytes ≡ Some (part, rest) → fields_of rest ≡ Some fields
    → fields_of bytes ≡ Some (bytes_fields n part ++ fields)

-- of bytes, also of none
abbrev pub PartIsCommon : Type 0
PartIsCommon = (n : ℕ) (bytes part rest : List ℕ) (fields : List FieldParts) → 0 < n → n < 16 → AreBytes bytes
    → canonical_part n bytes ≡ Some (part, rest) → fields_of rest ≡ Some fields
    → fields_of bytes ≡ Some (part_field n part ∷ fields)
