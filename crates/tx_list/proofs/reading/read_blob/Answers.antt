use Rattle.std.proofs.Common.{◌∙◌, [], arith}
use Rattle.proto_fields.specs.Fields.{own_bytes, own_numbers}
use Rattle.proto_fields.specs.Values.{field_parts}
use Rattle.proto_fields.proofs.FieldLemmas.{field_is_shorter}
use Rattle.tx_list.specs.Walks.{stated_parts}
use Rattle.tx_list.proofs.KeptLemmas.{fields_go, fields_stop, last_goes, last_stops, stated_parts_are}
use Rattle.tx_list.proofs.reading.read_blob.Goals as goal

-- a field takes a byte
pub loop-field-smaller : goal.loop-field-smaller
loop-field-smaller c =
    omega (arith, field_is_shorter c.loop-field.rest.now c.in-Some.after.now (field_parts c.in-Some.field) c.in-Some.ensures)

-- each part is the last one
pub loop-field-preserved : goal.loop-field-preserved
loop-field-preserved c =
    let so_far = c.loop-field.invariant in
    let field = field_parts c.in-Some.field in
    record {
      fields = fields_go c.args.entry.now c.loop-field.rest.now c.in-Some.after.now field so_far.fields c.in-Some.ensures;
      version = last_goes (own_numbers 4) 0 c.loop-field.blob.version c.with_field-blob.result.version c.args.entry.now c.loop-field.rest.now c.in-Some.after.now field
          so_far.fields so_far.version c.in-Some.ensures c.with_field-blob.ensures.version;
      id = last_goes (own_bytes 1) [] c.loop-field.blob.id.now c.with_field-blob.result.id.now c.args.entry.now c.loop-field.rest.now c.in-Some.after.now field
          so_far.fields so_far.id c.in-Some.ensures c.with_field-blob.ensures.id;
      bytes = last_goes (own_bytes 2) [] c.loop-field.blob.bytes.now c.with_field-blob.result.bytes.now c.args.entry.now c.loop-field.rest.now c.in-Some.after.now field
          so_far.fields so_far.bytes c.in-Some.ensures c.with_field-blob.ensures.bytes;
      share_version = last_goes (own_numbers 3) 0 c.loop-field.blob.share_version c.with_field-blob.result.share_version c.args.entry.now c.loop-field.rest.now
          c.in-Some.after.now field so_far.fields so_far.share_version c.in-Some.ensures c.with_field-blob.ensures.share_version;
      signer = last_goes (own_bytes 5) [] c.loop-field.blob.signer.now c.with_field-blob.result.signer.now c.args.entry.now c.loop-field.rest.now c.in-Some.after.now field
          so_far.fields so_far.signer c.in-Some.ensures c.with_field-blob.ensures.signer;
    }

-- no field is left: nothing may be
pub returns-clause-fields : goal.returns-clause-fields
returns-clause-fields c = c.is_empty.ensures ∙ fields_stop c.args.entry.now c.loop-field.rest.now c.loop-field.invariant.fields c.in_default.ensures

-- then the last parts are the blob's
pub returns-clause-blob : goal.returns-clause-blob
returns-clause-blob c = λ fine.
    let so_far = c.loop-field.invariant in
    let bytes = c.args.entry.now in
    let rest = c.loop-field.rest.now in
    c.lowered.ensures
    ∙ stated_parts_are bytes (stated_parts c.loop-field.blob)
    (last_stops (own_numbers 4) 0 c.loop-field.blob.version bytes rest so_far.fields so_far.version c.in_default.ensures fine)
    (last_stops (own_bytes 1) [] c.loop-field.blob.id.now bytes rest so_far.fields so_far.id c.in_default.ensures fine)
    (last_stops (own_bytes 2) [] c.loop-field.blob.bytes.now bytes rest so_far.fields so_far.bytes c.in_default.ensures fine)
    (last_stops (own_numbers 3) 0 c.loop-field.blob.share_version bytes rest so_far.fields so_far.share_version c.in_default.ensures fine)
    (last_stops (own_bytes 5) [] c.loop-field.blob.signer.now bytes rest so_far.fields so_far.signer c.in_default.ensures fine)
