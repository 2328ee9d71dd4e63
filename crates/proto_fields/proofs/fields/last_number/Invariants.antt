use Rattle.std.proofs.Common.{length}
use Rattle.proto_fields.specs.Fields.{own_numbers}
use Rattle.proto_fields.proofs.FieldLemmas.{IsLastSoFar}
use Rattle.proto_fields.proofs.fields.last_number.Given as goal

-- it has the last so far
abbrev pub invariant-loop-field : goal.invariant-loop-field
invariant-loop-field l = IsLastSoFar (own_numbers l.number) 0 l.last l.fn.bytes l.rest

abbrev pub decreases-loop-field : goal.decreases-loop-field
decreases-loop-field l = length l.rest
