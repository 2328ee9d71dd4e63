-- What is taken of an extended header is what every reader of protobuf finds in it.
use Rattle.std.specs.Prelude.{◌≡◌, ◌⊎◌, ℕ, ◌==◌, List, [], ◌∷◌, length, flat_map, Some, Ok, if◌then◌else◌}
use Rattle.proto_fields.specs.Fields.{FieldParts, fields_of}
use Rattle.proto_fields.specs.Canonical.{part_field}
use Rattle.celestia_pb.specs.declared.extended.Extended.{Extended}
use Rattle.celestia_pb.specs.Headers.{dah_value}
use Rattle.celestia_pb.specs.Extended.{extended_value}
use Rattle.namespace_id.specs.Sizes.{hash_size}

-- a field, if it has this number
abbrev pub own_field : ℕ → FieldParts → List FieldParts
own_field n field = if field.number == n then field ∷ [] else []

-- the fields of a number
abbrev pub fields_numbered : ℕ → List FieldParts → List FieldParts
fields_numbered n fields = flat_map (own_field n) fields

-- there is one field of a number at most, and it is bytes
abbrev pub IsOnceAtMost : ℕ → List FieldParts → Type 0
IsOnceAtMost n fields = (fields_numbered n fields ≡ []) ⊎ ((part : List ℕ) × (fields_numbered n fields ≡ part_field n part ∷ []))

-- a block's header whose one field 7 is this data hash
pub record HasDataHash (header data_hash : List ℕ) : Type 0 where
  pub fields : List FieldParts
  pub are : fields_of header ≡ Some fields
  pub one : fields_numbered 7 fields ≡ part_field 7 data_hash ∷ []
  pub size : length data_hash ≡ hash_size

-- a message with one header of this data hash, with these axis roots, also once, and with one commit and one field of
-- validators at most
pub record IsExtended (bytes : List ℕ) (extended : Extended) : Type 0 where
  pub fields : List FieldParts
  pub are : fields_of bytes ≡ Some fields
  pub header : List ℕ
  pub one_header : fields_numbered 1 fields ≡ part_field 1 header ∷ []
  pub data_hash : HasDataHash header extended.data_hash
  pub dah : List ℕ
  pub one_dah : fields_numbered 4 fields ≡ part_field 4 dah ∷ []
  pub roots : dah_value dah ≡ Ok extended.roots
  pub commit : IsOnceAtMost 2 fields
  pub validators : IsOnceAtMost 3 fields

-- what is read has these fields
abbrev pub ExtendedIsCommon : Type 0
ExtendedIsCommon = (bytes : List ℕ) (extended : Extended) → extended_value bytes ≡ Ok extended → IsExtended bytes extended

-- and what has them is read
abbrev pub ExtendedIsRead : Type 0
ExtendedIsRead = (bytes : List ℕ) (extended : Extended) → IsExtended bytes extended → extended_value bytes ≡ Ok extended
