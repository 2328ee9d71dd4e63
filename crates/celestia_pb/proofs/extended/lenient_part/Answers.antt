use Rattle.std.proofs.Common.{arith}
use Rattle.proto_fields.specs.Values.{field_parts}
use Rattle.proto_fields.proofs.GroupLemmas.{field_shorter}
use Rattle.celestia_pb.proofs.extended.lenient_part.Goals as goal

-- a field takes a byte
pub returns-in-Bytes-clause-shorter : goal.returns-in-Bytes-clause-shorter
returns-in-Bytes-clause-shorter c =
    omega (arith, field_shorter c.args.bytes.now (field_parts c.in_ok-field.field, c.in_ok-field.rest.now) c.in_ok-field.ensures)
