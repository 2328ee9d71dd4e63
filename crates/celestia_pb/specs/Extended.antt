-- An extended header of celestia-node, message ExtendedHeader: the header of a block in field 1, of which field 7 is the data hash,
-- and its axis roots in field 4. Of the commit in field 2 and of the validators in field 3 nothing is read but where they end.
-- Fields may stand in any order, with others between them; the message of the axis roots alone is asked in its one spelling.
use Rattle.std.specs.Prelude.{ℕ, zero, suc, ◌+◌, ◌*◌, ◌==◌, max, List, [], ◌∷◌, length, drop, Option, Some, None, option_and_then, Result, Ok, Err, ⊤, if◌then◌else◌}
use Rattle.data_header.specs.Headers.{Roots}
use Rattle.proto_fields.specs.Fields.{ValueParts, number_value, bytes_value, other_value, FieldParts, field_at}
use Rattle.celestia_pb.specs.declared.extended.Extended.{Extended}
use Rattle.celestia_pb.specs.declared.extended.Parts.{Parts}
use Rattle.celestia_pb.specs.Reading.{then_read, or_left, with_offset}
use Rattle.celestia_pb.specs.Digests.{entry_size, digests_in}
use Rattle.celestia_pb.specs.Headers.{dah_left}
use Rattle.namespace_id.specs.Sizes.{hash_size}

-- ---- fields that are looked for

-- the bytes from a field on that has this number, else those that `later` finds behind it
abbrev pub from_or : ℕ → (List ℕ → Result (List ℕ) ℕ) → List ℕ → Option (FieldParts × List ℕ) → Result (List ℕ) ℕ
from_or n later bytes None = Err (length bytes)
from_or n later bytes (Some read) = if read.0.number == n then Ok bytes else later read.1

-- the bytes from the first field of a number on, where there are at most so many fields before it
unfoldable pub from_within : ℕ → ℕ → List ℕ → Result (List ℕ) ℕ
from_within more n [] = Ok []
from_within zero n (byte ∷ bytes) = Err (length (byte ∷ bytes))
from_within (suc more) n (byte ∷ bytes) = from_or n (from_within more n) (byte ∷ bytes) (field_at (byte ∷ bytes))

-- the bytes from the first field of a number on, none where there is none; where something before it is no field, how many are left
abbrev pub from_field : ℕ → List ℕ → Result (List ℕ) ℕ
from_field n bytes = from_within (length bytes) n bytes

-- a step over these bytes
abbrev pub then_from : {A : Type 0} → (List ℕ → Result A ℕ) → Result (List ℕ) ℕ → Result A ℕ
then_from next (Ok from) = next from
then_from next (Err left) = Err left

-- nothing may be left
abbrev pub none_left : List ℕ → Result ⊤ ℕ
none_left from = if length from == 0 then Ok tt else Err (length from)

-- no field of a number may be there
abbrev pub none_of : ℕ → List ℕ → Result ⊤ ℕ
none_of n bytes = then_from none_left (from_field n bytes)

-- a value, unless something is wrong
abbrev pub unless : {A : Type 0} → A → Result ⊤ ℕ → Result A ℕ
unless value (Ok right) = Ok value
unless value (Err left) = Err left

-- what `read` reads in the first field of a number, behind which there may be no other one
abbrev pub one_field : {A : Type 0} → (List ℕ → Result (A × List ℕ) ℕ) → ℕ → List ℕ → Result A ℕ
one_field read n bytes = then_from (λ from. then_read (λ value rest. unless value (none_of n rest)) (read from)) (from_field n bytes)

-- ---- fields of bytes, in whatever spelling

-- the bytes that a value is, with what follows it
abbrev pub bytes_of_value : ValueParts → List ℕ → Option (List ℕ × List ℕ)
bytes_of_value (number_value number) rest = None
bytes_of_value (bytes_value part) rest = Some (part, rest)
bytes_of_value other_value rest = None

-- the bytes that the field at the front is, whatever its number, and what follows
abbrev pub lenient_part : List ℕ → Option (List ℕ × List ℕ)
lenient_part bytes = option_and_then (λ read. bytes_of_value read.0.value read.1) (field_at bytes)

-- what a message says that others follow; where a field in it is wrong, these are left besides
abbrev pub with_rest : {A : Type 0} → List ℕ → Result A ℕ → Result (A × List ℕ) ℕ
with_rest rest (Ok value) = Ok (value, rest)
with_rest rest (Err left) = Err (left + length rest)

-- what the message in the field at the front says, and what follows
abbrev pub submessage : {A : Type 0} → (List ℕ → Result A ℕ) → List ℕ → Result (A × List ℕ) ℕ
submessage said bytes = then_read (λ part rest. with_rest rest (said part)) (or_left bytes (lenient_part bytes))

-- ---- the parts

-- bytes that were read, where they are a data hash
abbrev pub if_hash : List ℕ × List ℕ → Option (List ℕ × List ℕ)
if_hash read = if length read.0 == hash_size then Some read else None

-- the data hash at the front, and what follows
abbrev pub hash_front : List ℕ → Option (List ℕ × List ℕ)
hash_front bytes = option_and_then if_hash (lenient_part bytes)

-- the data hash of the header of a block
abbrev pub data_hash_left : List ℕ → Result (List ℕ) ℕ
data_hash_left header = one_field (λ from. or_left from (hash_front from)) 7 header

-- the data hash in the header
abbrev pub header_left : List ℕ → Result (List ℕ) ℕ
header_left bytes = one_field (submessage data_hash_left) 1 bytes

-- the axis roots
abbrev pub roots_left : List ℕ → Result Roots ℕ
roots_left bytes = one_field (submessage dah_left) 4 bytes

-- a field of bytes of a number is there once at most
abbrev pub once_at_most : ℕ → List ℕ → Result ⊤ ℕ
once_at_most n bytes =
    then_from
    (λ from. if length from == 0 then Ok tt else then_read (λ part rest. none_of n rest) (or_left from (lenient_part from)))
    (from_field n bytes)

-- ---- the whole

-- two readings of the same bytes; where both found something wrong, that of which more bytes are left is the first
abbrev pub both_read : Result (List ℕ) ℕ → Result Roots ℕ → Result Extended ℕ
both_read (Ok data_hash) (Ok roots) = Ok (record { data_hash = data_hash; roots = roots })
both_read (Ok data_hash) (Err left) = Err left
both_read (Err left) (Ok roots) = Err left
both_read (Err left) (Err other) = Err (max left other)

-- and a third one
abbrev pub besides : {A : Type 0} → Result A ℕ → Result ⊤ ℕ → Result A ℕ
besides (Ok value) (Ok right) = Ok value
besides (Ok value) (Err left) = Err left
besides (Err left) (Ok right) = Err left
besides (Err left) (Err other) = Err (max left other)

-- what is taken of a message, or how many bytes are left from the first field that is wrong on
abbrev pub extended_left : List ℕ → Result Extended ℕ
extended_left bytes =
    besides (besides (both_read (header_left bytes) (roots_left bytes)) (once_at_most 2 bytes)) (once_at_most 3 bytes)

-- what is taken of a message, or the offset of the first field that is wrong
abbrev pub extended_value : List ℕ → Result Extended ℕ
extended_value bytes = with_offset (length bytes) (extended_left bytes)

-- ---- where the parts lie

-- the header of this width whose roots lie in these bytes
abbrev pub roots_by : ℕ → List ℕ → Roots
roots_by k bytes = record { k = k; rows = digests_in (2 * k) bytes; cols = digests_in (2 * k) (drop (entry_size * (2 * k)) bytes) }

-- what is taken of a message that has these parts
abbrev pub extended_from : Parts → Extended
extended_from parts = record { data_hash = parts.data_hash.now; roots = roots_by parts.k parts.roots.now }
