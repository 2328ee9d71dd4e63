-- The examples of protobuf's "Encoding", and groups.
use Rattle.std.proofs.Common.{◌≡◌, [], ◌∷◌, Some, None, codes, refl}
use Rattle.proto_fields.specs.Varints.{varint_within, varint, number_within, number_at}
use Rattle.proto_fields.specs.Fields.{number_value, bytes_value, other_value, behind_group, value_at, field_at, fields_within, fields_of, last_of, last_number}
use Rattle.proto_fields.specs.Spelled.{number_field, bytes_field}

-- "the number 150"
varint_of_150 : varint 150 ≡ 0x96 ∷ 0x01 ∷ []
unfolding varint_within
varint_of_150 = refl

field_1_of_150 : number_field 1 150 ≡ 0x08 ∷ 0x96 ∷ 0x01 ∷ []
unfolding varint_within
field_1_of_150 = refl

field_1_is_150 : field_at (0x08 ∷ 0x96 ∷ 0x01 ∷ []) ≡ Some (record { number = 1; value = number_value 150 }, [])
unfolding number_within value_at behind_group
field_1_is_150 = refl

-- "the text testing"
field_2_of_testing : bytes_field 2 (codes "testing") ≡ 0x12 ∷ 0x07 ∷ codes "testing"
unfolding varint_within
field_2_of_testing = refl

field_2_is_testing : field_at (0x12 ∷ 0x07 ∷ codes "testing") ≡ Some (record { number = 2; value = bytes_value (codes "testing") }, [])
unfolding number_within value_at behind_group
field_2_is_testing = refl

-- a varint that is longer than it need be
longer_150 : number_at (0x96 ∷ 0x81 ∷ 0x00 ∷ 0xff ∷ []) ≡ Some (150, 0xff ∷ [])
unfolding number_within
longer_150 = refl

-- a group of number 1 with a group of number 2 in it, which has a number of field 3
group_in_a_group : field_at (0x0b ∷ 0x13 ∷ 0x18 ∷ 0x05 ∷ 0x14 ∷ 0x0c ∷ 0x20 ∷ []) ≡ Some (record { number = 1; value = other_value }, 0x20 ∷ [])
unfolding number_within value_at behind_group
group_in_a_group = refl

-- a group that another number ends
crossed_group : field_at (0x0b ∷ 0x14 ∷ []) ≡ None
unfolding number_within value_at behind_group
crossed_group = refl

-- of two numbers the last one counts
last_of_two : last_number 3 (record { number = 3; value = number_value 1 } ∷ record { number = 3; value = number_value 2 } ∷ []) ≡ 2
unfolding last_of
last_of_two = refl

-- fields inside a group aren't among the fields
fields_around_a_group : fields_of (0x18 ∷ 0x01 ∷ 0x0b ∷ 0x18 ∷ 0x07 ∷ 0x0c ∷ 0x18 ∷ 0x02 ∷ [])
    ≡ Some (record { number = 3; value = number_value 1 } ∷ record { number = 1; value = other_value } ∷ record { number = 3; value = number_value 2 } ∷ [])
unfolding fields_within number_within value_at behind_group
fields_around_a_group = refl
