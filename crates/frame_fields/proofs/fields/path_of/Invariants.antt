use Rattle.frame_fields.specs.Fields.{digest, digests_of}
use Rattle.frame_fields.proofs.SplitLoops.{Left}
use Rattle.frame_fields.proofs.fields.path_of.Given as goal

-- the digests so far and those of the rest are all
abbrev pub invariant-loop : goal.invariant-loop
invariant-loop l = Left digest 90 l.count l.counter (digests_of l.count l.bytes) l.path l.rest
