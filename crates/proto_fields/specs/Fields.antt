-- Fields, as they are read: in any order, of any numbers, with varints of any length (protobuf, "Encoding").
use Rattle.std.specs.Prelude.{ℕ, zero, suc, ◌/◌, ◌%◌, ◌^◌, ◌==◌, ◌&&◌, nat_lt, nat_le, Bool, true, false, List, [], ◌∷◌, length, take, drop, Option, Some, None, option_map, option_and_then, flat_map, if◌then◌else◌}
use Rattle.proto_fields.specs.declared.tags.Tag.{Tag}
use Rattle.proto_fields.specs.declared.tags.Wire.{Wire}
use Rattle.proto_fields.specs.declared.tags.Wire.TheVariants.{Varint, EightBytes, Delimited, GroupStart, GroupEnd, FourBytes}
use Rattle.proto_fields.specs.Varints.{number_at}

-- ---- tags

-- the wire that the lowest three bits of a tag state
abbrev pub wire_of : ℕ → Option Wire
wire_of code =
    if code == 0 then Some Varint else
    (if code == 1 then Some EightBytes else
    (if code == 2 then Some Delimited else
    (if code == 3 then Some GroupStart else
    (if code == 4 then Some GroupEnd else
    (if code == 5 then Some FourBytes else None)))))

-- whether a field may have this number
abbrev pub is_field_number : ℕ → Bool
is_field_number n = nat_lt 0 n && nat_lt n (2 ^ 29)

-- the tag that a number is
abbrev pub tag_of : ℕ → Option Tag
tag_of n =
    if is_field_number (n / 8)
    then option_map (λ wire. record { number = n / 8; wire = wire }) (wire_of (n % 8))
    else None

-- the tag at the front, and what follows
abbrev pub tag_at : List ℕ → Option (Tag × List ℕ)
tag_at bytes = option_and_then (λ read. option_map (λ tag. (tag, read.1)) (tag_of read.0)) (number_at bytes)

-- ---- values

-- a value: a number, bytes, or one that is passed over
pub data ValueParts : Type 0 where
  number_value : (number : ℕ) → ValueParts
  bytes_value : (bytes : List ℕ) → ValueParts
  other_value : ValueParts

-- so many bytes at the front, and what follows
abbrev pub bytes_at : ℕ → List ℕ → Option (List ℕ × List ℕ)
bytes_at count bytes = if nat_le count (length bytes) then Some (take count bytes, drop count bytes) else None

-- bytes behind their length, and what follows
abbrev pub text_at : List ℕ → Option (List ℕ × List ℕ)
text_at bytes = option_and_then (λ read. bytes_at read.0 read.1) (number_at bytes)

-- the value of a wire at the front, and what follows it; `group` says what follows a group
abbrev pub value_of_wire : (List ℕ → Option (List ℕ)) → Wire → List ℕ → Option (ValueParts × List ℕ)
value_of_wire group Varint bytes = option_map (λ read. (number_value read.0, read.1)) (number_at bytes)
value_of_wire group EightBytes bytes = option_map (λ read. (other_value, read.1)) (bytes_at 8 bytes)
value_of_wire group Delimited bytes = option_map (λ read. (bytes_value read.0, read.1)) (text_at bytes)
value_of_wire group GroupStart bytes = option_map (λ rest. (other_value, rest)) (group bytes)
value_of_wire group GroupEnd bytes = None
value_of_wire group FourBytes bytes = option_map (λ read. (other_value, read.1)) (bytes_at 4 bytes)

-- whether a tag ends a group
abbrev pub is_end : Wire → Bool
is_end Varint = false
is_end EightBytes = false
is_end Delimited = false
is_end GroupStart = false
is_end GroupEnd = true
is_end FourBytes = false

-- what follows a group of this number, whose values are read so: any fields of at most so many, and a tag that ends it
unfoldable pub behind_group : (Tag → List ℕ → Option (ValueParts × List ℕ)) → ℕ → ℕ → List ℕ → Option (List ℕ)
behind_group value n zero bytes = None
behind_group value n (suc more) bytes =
    option_and_then (λ read.
    if is_end read.0.wire
    then (if read.0.number == n then Some read.1 else None)
    else option_and_then (λ passed. behind_group value n more passed.1) (value read.0 read.1))
    (tag_at bytes)

-- no group may be open
abbrev pub no_group : List ℕ → Option (List ℕ)
no_group bytes = None

-- the value behind a tag, and what follows; so many groups may be open in it, one in another
unfoldable pub value_at : ℕ → Tag → List ℕ → Option (ValueParts × List ℕ)
value_at zero tag bytes = value_of_wire no_group tag.wire bytes
value_at (suc most) tag bytes =
    value_of_wire (λ inside. behind_group (value_at most) tag.number (length inside) inside) tag.wire bytes

-- ---- fields

-- the most groups that are open at once
abbrev pub most_open : ℕ
most_open = 100

-- a field: its number and its value
pub record FieldParts : Type 0 where
  pub number : ℕ
  pub value : ValueParts

-- the field at the front, and what follows
abbrev pub field_at : List ℕ → Option (FieldParts × List ℕ)
field_at bytes =
    option_and_then (λ read.
    option_map (λ value. (record { number = read.0.number; value = value.0 }, value.1)) (value_at most_open read.0 read.1))
    (tag_at bytes)

-- the fields that bytes are, of at most so many
unfoldable pub fields_within : ℕ → List ℕ → Option (List FieldParts)
fields_within more [] = Some []
fields_within zero (byte ∷ bytes) = None
fields_within (suc more) (byte ∷ bytes) =
    option_and_then (λ read. option_map (λ fields. read.0 ∷ fields) (fields_within more read.1)) (field_at (byte ∷ bytes))

-- the fields that bytes are, none where they aren't fields; each takes a byte at least
abbrev pub fields_of : List ℕ → Option (List FieldParts)
fields_of bytes = fields_within (length bytes) bytes

-- ---- the last of a number

-- the last of some values, or this one
unfoldable pub last_of : {A : Type 0} → A → List A → A
last_of found [] = found
last_of found (value ∷ values) = last_of value values

-- the bytes that a value is, and the number
abbrev pub bytes_of : ValueParts → List (List ℕ)
bytes_of (number_value number) = []
bytes_of (bytes_value bytes) = bytes ∷ []
bytes_of other_value = []

abbrev pub number_of : ValueParts → List ℕ
number_of (number_value number) = number ∷ []
number_of (bytes_value bytes) = []
number_of other_value = []

-- those of a field, if it has this number
abbrev pub own_bytes : ℕ → FieldParts → List (List ℕ)
own_bytes n field = if field.number == n then bytes_of field.value else []

abbrev pub own_numbers : ℕ → FieldParts → List ℕ
own_numbers n field = if field.number == n then number_of field.value else []

-- all bytes that fields of this number are, in their order, and all numbers
abbrev pub all_bytes : ℕ → List FieldParts → List (List ℕ)
all_bytes n fields = flat_map (own_bytes n) fields

abbrev pub all_numbers : ℕ → List FieldParts → List ℕ
all_numbers n fields = flat_map (own_numbers n) fields

-- the last of them: no bytes, and 0, where there is none
abbrev pub last_bytes : ℕ → List FieldParts → List ℕ
last_bytes n fields = last_of [] (all_bytes n fields)

abbrev pub last_number : ℕ → List FieldParts → ℕ
last_number n fields = last_of 0 (all_numbers n fields)
