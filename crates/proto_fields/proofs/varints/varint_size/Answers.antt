use Rattle.std.proofs.Common.{arith}
use Rattle.proto_fields.proofs.Varint.Bytes.{length-varint, length-varint-low, length-varint-high}
use Rattle.proto_fields.proofs.varints.varint_size.Goals as goal

pub overflow_add-size : goal.overflow_add-size
overflow_add-size c = omega (arith, length-varint c.args.number)

pub loop-rest-preserved : goal.loop-rest-preserved
loop-rest-preserved c = record {
  all = omega (arith, length-varint-high c.loop-rest.rest (omega arith) (omega arith));
  fits = omega arith;
}

pub returns-clause-value : goal.returns-clause-value
returns-clause-value c = omega (arith, length-varint-low c.loop-rest.rest (omega arith))

pub returns-clause-few : goal.returns-clause-few
returns-clause-few c = omega (arith, length-varint c.args.number, length-varint-low c.loop-rest.rest (omega arith))
