use Rattle.std.proofs.Common.{◌≡◌, length}
use Rattle.std.specs.Option.{is_some}
use Rattle.proto_fields.specs.Fields.{fields_of}
use Rattle.proto_fields.proofs.fields.are_fields.Given as goal

-- what is left are fields exactly where all is
abbrev pub invariant-loop-field : goal.invariant-loop-field
invariant-loop-field l = is_some (fields_of l.rest) ≡ is_some (fields_of l.fn.bytes)

abbrev pub decreases-loop-field : goal.decreases-loop-field
decreases-loop-field l = length l.rest
