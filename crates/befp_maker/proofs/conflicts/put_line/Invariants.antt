use Rattle.std.proofs.Common.{◌≡◌, ◌+◌, ◌-◌, ◌≤◌, vec_len, vec_capacity}
use Rattle.namespace_id.specs.Lists.{ascending}
use Rattle.befp_maker.specs.Gathered.{IsContinued}
use Rattle.befp_maker.proofs.conflicts.put_line.Given as goal

-- the samples so far; the shares stay
abbrev pub invariant-loop-pos : goal.invariant-loop-pos
invariant-loop-pos l = record {
  same : l.room ≡ l.fn.room;
  made : IsContinued l.header l.axis l.index l.fn.room.shares (ascending l.from (l.pos - l.from)) l.fn.cells.items l.cells.items;
  len : vec_len l.cells ≡ vec_len l.fn.cells + (l.pos - l.from);
  space : vec_capacity l.fn.cells ≤ vec_capacity l.cells;
}
