use Rattle.std.proofs.Common.{◌≡◌, ◌-◌, ◌*◌, length}
use Rattle.frame_fields.specs.Fields.{cells_of}
use Rattle.frame_payloads.specs.kinds.Missing.{are_next}
use Rattle.frame_payloads.proofs.kinds.missing.are_next.Given as goal

-- the cells of the rest decide
abbrev pub invariant-loop : goal.invariant-loop
invariant-loop l = record {
  decides : are_next l.k l.before (cells_of (l.count - l.counter) l.rest) ≡ are_next l.k l.fn.before (cells_of l.count l.bytes);
  left : length l.rest ≡ 4 * (l.count - l.counter);
}
