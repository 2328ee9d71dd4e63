use Rattle.frame_fields.specs.Fields.{split_into}
use Rattle.frame_fields.proofs.SplitLoops.{Left}
use Rattle.frame_fields.proofs.fields.hashes_of.Given as goal

-- the hashes so far and those of the rest are all
abbrev pub invariant-loop : goal.invariant-loop
invariant-loop l = Left (λ hash. hash) 32 l.count l.counter (split_into (λ hash. hash) 32 l.count l.bytes) l.hashes l.rest
