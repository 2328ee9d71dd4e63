-- What fields that were read are.
use Rattle.proto_fields.specs.declared.values.Value.{Value}
use Rattle.proto_fields.specs.declared.values.Value.TheVariants as value
use Rattle.proto_fields.specs.declared.fields.Field.{Field}
use Rattle.proto_fields.specs.Fields.{ValueParts, FieldParts, number_value, bytes_value, other_value}

-- a value without the place where its bytes lie
abbrev pub value_parts : Value → ValueParts
value_parts (value.Number number) = number_value number
value_parts (value.Bytes bytes) = bytes_value bytes.now
value_parts value.Other = other_value

-- a field
abbrev pub field_parts : Field → FieldParts
field_parts field = record { number = field.number; value = value_parts field.value }
