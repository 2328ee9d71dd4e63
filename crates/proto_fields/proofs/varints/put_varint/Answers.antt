use Rattle.std.proofs.Common.{◌∙◌, ℕ, ◌++◌, List, sym, ap, arith}
use Rattle.proto_fields.proofs.Varint.Bytes.{varint-low, length-varint-low, length-varint-high, varint-step, some-varint}
use Rattle.proto_fields.proofs.varints.put_varint.Goals as goal

pub append-requires : goal.append-requires
append-requires c = record { capacity = omega (arith, c.requires.capacity, some-varint c.loop-rest.rest) }

pub loop-rest-preserved : goal.loop-rest-preserved
loop-rest-preserved c = record {
  all = varint-step c.loop-rest.out.items c.append.new.out.items _ c.loop-rest.rest
      (omega arith) (omega arith) c.loop-rest.invariant.all c.append.ensures.appended;
  len = omega (arith, length-varint-high c.loop-rest.rest (omega arith) (omega arith));
  capacity = omega arith;
  fits = omega arith;
}

pub append-requires-2 : goal.append-requires-2
append-requires-2 c = record { capacity = omega (arith, c.requires.capacity, some-varint c.loop-rest.rest) }

pub returns-clause-appended : goal.returns-clause-appended
returns-clause-appended c =
    c.append-2.ensures.appended
    ∙ sym (ap (λ (x : List ℕ). c.loop-rest.out.items ++ x) (varint-low c.loop-rest.rest (omega arith)))
    ∙ c.loop-rest.invariant.all

pub returns-clause-len : goal.returns-clause-len
returns-clause-len c = omega (arith, length-varint-low c.loop-rest.rest (omega arith))
