use Rattle.std.proofs.Common.{◌≡◌, ◌≤◌, ◌-◌}
use Rattle.namespace_id.specs.Lists.{ascending}
use Rattle.half_rows.proofs.lines.ascending.Given as goal

-- those before the next number
abbrev pub invariant-loop-number : goal.invariant-loop-number
invariant-loop-number l = record {
  items : l.numbers.items ≡ ascending l.first (l.number - l.first);
  low : l.first ≤ l.number;
}
