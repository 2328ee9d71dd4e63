use Rattle.std.proofs.Common.{◌≡◌, ◌-◌}
use Rattle.frame_fields.specs.Fields.{many_at}
use Rattle.frame_payloads.proofs.Fields.Many.{after_some}
use Rattle.frame_payloads.proofs.codec.items.many_of.Given as goal

-- those so far and those that are left are all
abbrev pub invariant-loop : goal.invariant-loop
invariant-loop g l = after_some l.items.items (many_at g.T.Item.at (l.count - l.counter) l.rest) ≡ many_at g.T.Item.at l.count l.bytes
