use Rattle.std.proofs.Common.{◌+◌, ◌≡◌, ◌≤◌, length}
use Rattle.proto_fields.specs.Varints.{varint}
use Rattle.proto_fields.proofs.varints.varint_size.Given as goal

-- what is counted and what is left are the varint
abbrev pub invariant-loop-rest : goal.invariant-loop-rest
invariant-loop-rest l = record {
  all : l.size + length (varint l.rest) ≡ 1 + length (varint l.number);
  fits : l.rest ≤ l.number;
}

abbrev pub decreases-loop-rest : goal.decreases-loop-rest
decreases-loop-rest l = l.rest
