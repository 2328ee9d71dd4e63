-- Fields in their one spelling, in the order of their numbers: shortest varints, no field for a default (protobuf,
-- "Encoding"). Numbers of fields are from 1 to 15, so that a tag has one byte.
use Rattle.std.specs.Prelude.{ℕ, ◌+◌, ◌*◌, ◌==◌, Bool, false, List, [], ◌∷◌, length, flat_map, Option, Some, None, option_and_then, if◌then◌else◌}
use Rattle.proto_fields.specs.Varints.{varint, number_at}
use Rattle.proto_fields.specs.Fields.{FieldParts, number_value, bytes_value, bytes_at}
use Rattle.proto_fields.specs.Spelled.{bytes_field, number_field}

-- ---- written

-- the field of a number: none for 0
abbrev pub number_text : ℕ → ℕ → List ℕ
number_text n value = if value == 0 then [] else number_field n value

-- the field of bytes: none for no bytes
abbrev pub bytes_text : ℕ → List ℕ → List ℕ
bytes_text n bytes = if length bytes == 0 then [] else bytes_field n bytes

-- a field of bytes for each of these, also for no bytes
abbrev pub parts_text : ℕ → List (List ℕ) → List ℕ
parts_text n parts = flat_map (bytes_field n) parts

-- ---- the fields that these are

-- that of a number
abbrev pub number_fields : ℕ → ℕ → List FieldParts
number_fields n value = if value == 0 then [] else record { number = n; value = number_value value } ∷ []

-- that of bytes
abbrev pub bytes_fields : ℕ → List ℕ → List FieldParts
bytes_fields n bytes = if length bytes == 0 then [] else record { number = n; value = bytes_value bytes } ∷ []

-- one of bytes, also of no bytes
abbrev pub part_field : ℕ → List ℕ → FieldParts
part_field n bytes = record { number = n; value = bytes_value bytes }

-- ---- read at the front of bytes

-- a number that was read of bytes, where the varint is the shortest
abbrev pub if_shortest : List ℕ → ℕ × List ℕ → Option (ℕ × List ℕ)
if_shortest bytes read = if length (varint read.0) + length read.1 == length bytes then Some read else None

-- the number that a shortest varint states, and what follows
abbrev pub shortest_at : List ℕ → Option (ℕ × List ℕ)
shortest_at bytes = option_and_then (if_shortest bytes) (number_at bytes)

-- the bytes behind their length as a shortest varint, and what follows
abbrev pub part_at : List ℕ → Option (List ℕ × List ℕ)
part_at bytes = option_and_then (λ read. bytes_at read.0 read.1) (shortest_at bytes)

-- whether this byte is at the front
abbrev pub begins : ℕ → List ℕ → Bool
begins tag [] = false
begins tag (byte ∷ bytes) = byte == tag

-- a number that was read, unless it is the default
abbrev pub if_some_number : ℕ × List ℕ → Option (ℕ × List ℕ)
if_some_number read = if read.0 == 0 then None else Some read

-- the number of a field, 0 where the field isn't there, and what follows
abbrev pub canonical_number : ℕ → List ℕ → Option (ℕ × List ℕ)
canonical_number n [] = Some (0, [])
canonical_number n (byte ∷ bytes) =
    if byte == 8 * n then option_and_then if_some_number (shortest_at bytes) else Some (0, byte ∷ bytes)

-- bytes that were read, unless they are the default
abbrev pub if_some_bytes : List ℕ × List ℕ → Option (List ℕ × List ℕ)
if_some_bytes read = if length read.0 == 0 then None else Some read

-- the bytes of a field, none where the field isn't there, and what follows
abbrev pub canonical_bytes : ℕ → List ℕ → Option (List ℕ × List ℕ)
canonical_bytes n [] = Some ([], [])
canonical_bytes n (byte ∷ bytes) =
    if byte == 8 * n + 2 then option_and_then if_some_bytes (part_at bytes) else Some ([], byte ∷ bytes)

-- whether a field of bytes is there
abbrev pub begins_part : ℕ → List ℕ → Bool
begins_part n bytes = begins (8 * n + 2) bytes

-- the bytes of a field that is there, also of no bytes, and what follows
abbrev pub canonical_part : ℕ → List ℕ → Option (List ℕ × List ℕ)
canonical_part n [] = None
canonical_part n (byte ∷ bytes) = if byte == 8 * n + 2 then part_at bytes else None
