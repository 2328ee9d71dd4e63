use Rattle.std.proofs.Common.{◌≡◌, [], arith}
use Rattle.proto_fields.specs.Fields.{fields_of, own_bytes, last_bytes}
use Rattle.proto_fields.specs.Values.{field_parts}
use Rattle.proto_fields.proofs.GroupLemmas.{field_shorter}
use Rattle.proto_fields.proofs.FieldLemmas.{last_begins, last_goes, last_ends, if_fields}
use Rattle.proto_fields.proofs.fields.last_bytes.Goals as goal

-- all is left
pub loop-field-init : goal.loop-field-init
loop-field-init c = last_begins (own_bytes c.args.number) [] c.args.bytes.now c.requires.fields

-- a field takes a byte
pub loop-field-smaller : goal.loop-field-smaller
loop-field-smaller c = omega (arith, field_shorter c.loop-field.rest.now (field_parts c.in-Some.field, c.in-Some.after.now) c.in-Some.ensures)

-- this one counts if it has the number
pub loop-field-preserved : goal.loop-field-preserved
loop-field-preserved c =
    last_goes (own_bytes c.args.number) [] c.loop-field.last.now c.bytes_or-last.result.now c.args.bytes.now c.loop-field.rest.now c.in-Some.after.now
    (field_parts c.in-Some.field) c.loop-field.invariant c.in-Some.ensures c.bytes_or-last.ensures

-- no field is left
pub returns : goal.returns
returns c =
    if_fields (λ fields. c.loop-field.last.now ≡ last_bytes c.args.number fields) (fields_of c.args.bytes.now)
    (last_ends (own_bytes c.args.number) [] c.loop-field.last.now c.args.bytes.now c.loop-field.rest.now c.loop-field.invariant c.in_default.ensures)
