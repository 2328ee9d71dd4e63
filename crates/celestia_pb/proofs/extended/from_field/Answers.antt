use Rattle.std.proofs.Common.{◌∙◌, sym, arith}
use Rattle.proto_fields.specs.Values.{field_parts}
use Rattle.proto_fields.proofs.GroupLemmas.{field_shorter}
use Rattle.celestia_pb.proofs.ExtendedFields.{from_here, from_behind, from_stops, from_ends}
use Rattle.celestia_pb.proofs.extended.from_field.Goals as goal

-- it is at the front
pub returns-then-field-number-clause-value : goal.returns-then-field-number-clause-value
returns-then-field-number-clause-value c =
    sym c.loop-field.invariant.same
    ∙ from_here c.args.number c.loop-field.rest.now c.in-Some.after.now (field_parts c.in-Some.field) c.in-Some.ensures c.if-field-number.true

-- a field takes a byte
pub loop-field-smaller : goal.loop-field-smaller
loop-field-smaller c = omega (arith, field_shorter c.loop-field.rest.now (field_parts c.in-Some.field, c.in-Some.after.now) c.in-Some.ensures)

-- it isn't
pub loop-field-preserved : goal.loop-field-preserved
loop-field-preserved c = record {
  same =
      sym (from_behind c.args.number c.loop-field.rest.now c.in-Some.after.now (field_parts c.in-Some.field) c.in-Some.ensures c.if-field-number.false)
      ∙ c.loop-field.invariant.same;
  few =
      omega (
        arith,
        field_shorter c.loop-field.rest.now (field_parts c.in-Some.field, c.in-Some.after.now) c.in-Some.ensures,
        c.loop-field.invariant.few,
      );
}

-- something is no field
pub returns-then-not-is_empty-clause-value : goal.returns-then-not-is_empty-clause-value
returns-then-not-is_empty-clause-value c =
    sym c.loop-field.invariant.same
    ∙ from_stops c.args.number c.loop-field.rest.now c.in_default.ensures (sym c.is_empty.ensures ∙ c.if-not-is_empty.true)

-- nothing is left
pub returns-clause-value : goal.returns-clause-value
returns-clause-value c =
    sym c.loop-field.invariant.same ∙ from_ends c.args.number c.loop-field.rest.now (sym c.is_empty.ensures ∙ c.if-not-is_empty.false)
