use Rattle.std.proofs.Common.{◌≡◌, ◌-◌, ◌*◌, ◌++◌, length}
use Rattle.frame_fields.specs.Fields.{cells_of}
use Rattle.frame_payloads.proofs.kinds.missing.cells_of.Given as goal

-- the cells so far and those of the rest are all
abbrev pub invariant-loop : goal.invariant-loop
invariant-loop l = record {
  done : l.cells.items ++ cells_of (l.count - l.counter) l.rest ≡ cells_of l.count l.bytes;
  left : length l.rest ≡ 4 * (l.count - l.counter);
}
