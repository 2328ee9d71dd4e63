use Rattle.std.proofs.Common.{◌+◌, ◌≡◌, ◌≤◌, ◌++◌, length, vec_len, vec_capacity}
use Rattle.proto_fields.specs.Varints.{varint}
use Rattle.proto_fields.proofs.varints.put_varint.Given as goal

-- what is there and what is left are the varint, and there is capacity for what is left
abbrev pub invariant-loop-rest : goal.invariant-loop-rest
invariant-loop-rest l = record {
  all : l.out.items ++ varint l.rest ≡ l.fn.out.items ++ varint l.number;
  len : vec_len l.out + length (varint l.rest) ≡ vec_len l.fn.out + length (varint l.number);
  capacity : vec_capacity l.fn.out ≤ vec_capacity l.out;
  fits : l.rest ≤ l.number;
}

abbrev pub decreases-loop-rest : goal.decreases-loop-rest
decreases-loop-rest l = l.rest
