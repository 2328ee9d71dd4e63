use Rattle.std.proofs.Common.{◌≡◌}
use Rattle.repair_queue.specs.Pools.{slot_in, KeepsCapacity}
use Rattle.repair_queue.specs.Keeping.{IsClearedTo}
use Rattle.repair_queue.proofs.keeping.clear_line.Given as goal

-- the samples of the cells that were looked at are out
abbrev pub invariant-loop-pos : goal.invariant-loop-pos
invariant-loop-pos l = record {
  width : l.pool.places.k ≡ l.fn.pool.places.k;
  cleared : IsClearedTo (slot_in l.fn.pool) (slot_in l.pool) l.axis l.index l.pos;
  room : KeepsCapacity l.fn.pool l.pool;
}
