use Rattle.namespace_id.specs.Shares.{share_of}
use Rattle.frame_fields.specs.Fields.{shares_of}
use Rattle.frame_fields.proofs.SplitLoops.{Left}
use Rattle.frame_fields.proofs.fields.shares_of.Given as goal

-- the shares so far and those of the rest are all
abbrev pub invariant-loop : goal.invariant-loop
invariant-loop l = Left share_of 512 l.count l.counter (shares_of l.count l.bytes) l.shares.items l.rest
