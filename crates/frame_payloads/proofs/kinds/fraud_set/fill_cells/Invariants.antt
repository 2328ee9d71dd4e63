use Rattle.std.proofs.Common.{◌≡◌, ◌-◌, ◌≤◌, vec_len, vec_capacity}
use Rattle.frame_fields.specs.Fields.{many_at}
use Rattle.frame_payloads.specs.kinds.Fraud.{set_cell_at}
use Rattle.frame_payloads.proofs.Fields.Many.{after_some}
use Rattle.frame_payloads.proofs.kinds.fraud_set.fill_cells.Given as goal

-- those so far and those that are left are all, and no capacity was lost
abbrev pub invariant-loop : goal.invariant-loop
invariant-loop l = record {
  all : after_some l.list.items (many_at (set_cell_at l.axis l.index) (l.count - l.counter) l.rest) ≡ many_at (set_cell_at l.axis l.index) l.count l.bytes;
  len : vec_len l.list ≡ l.counter;
  capacity : vec_capacity l.fn.list ≤ vec_capacity l.list;
}
