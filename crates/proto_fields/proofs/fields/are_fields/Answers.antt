use Rattle.std.proofs.Common.{◌≡◌, ◌∙◌, IsTrue, sym, subst, arith}
use Rattle.std.specs.Option.{is_some}
use Rattle.proto_fields.specs.Fields.{fields_of}
use Rattle.proto_fields.specs.Values.{field_parts}
use Rattle.proto_fields.proofs.GroupLemmas.{field_shorter}
use Rattle.proto_fields.proofs.FieldLemmas.{still_fields, fields_end}
use Rattle.proto_fields.proofs.fields.are_fields.Goals as goal

-- a field takes a byte
pub loop-field-smaller : goal.loop-field-smaller
loop-field-smaller c = omega (arith, field_shorter c.loop-field.rest.now (field_parts c.in-Some._field, c.in-Some.after.now) c.in-Some.ensures)

-- it depends on what is behind the field
pub loop-field-preserved : goal.loop-field-preserved
loop-field-preserved c =
    still_fields c.loop-field.rest.now c.in-Some.after.now (field_parts c.in-Some._field) c.in-Some.ensures
    ∙ c.loop-field.invariant

-- no field is left: nothing may be
pub returns : goal.returns
returns c =
    let e : c.is_empty.result ≡ is_some (fields_of c.args.bytes.now) =
    c.is_empty.ensures ∙ sym (fields_end c.loop-field.rest.now c.in_default.ensures) ∙ c.loop-field.invariant in
    (λ h. subst IsTrue e h, λ h. subst IsTrue (sym e) h)
