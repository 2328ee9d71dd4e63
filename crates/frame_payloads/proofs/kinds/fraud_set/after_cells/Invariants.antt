use Rattle.std.proofs.Common.{◌≡◌, ◌-◌, List}
use Rattle.std.specs.List.{list_any}
use Rattle.axis_roots.specs.declared.message.messages.Message.{Message}
use Rattle.axis_roots.specs.Sets.{is_along}
use Rattle.frame_fields.specs.Fields.{many_at}
use Rattle.frame_payloads.specs.kinds.Fraud.{set_cell_at}
use Rattle.frame_payloads.proofs.Fields.Many.{after_some}
use Rattle.frame_payloads.proofs.kinds.fraud_set.after_cells.Given as goal

-- some so far and those that are left are all, and it is told of those so far
abbrev pub invariant-loop : goal.invariant-loop
invariant-loop l = (cells : List Message)
    × (after_some cells (many_at (set_cell_at l.axis l.index) (l.count - l.counter) l.rest) ≡ many_at (set_cell_at l.axis l.index) l.count l.bytes)
    × (l.shown ≡ list_any (is_along l.axis) cells)
