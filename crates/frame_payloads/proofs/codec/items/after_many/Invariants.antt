use Rattle.frame_payloads.proofs.Fields.Many.{Kept}
use Rattle.frame_payloads.proofs.codec.items.after_many.Given as goal

-- some so far and those that are left are all
abbrev pub invariant-loop : goal.invariant-loop
invariant-loop g l = Kept g.T.Item.at l.count l.counter l.rest l.bytes
