use Rattle.std.proofs.Common.{◌≡◌}
use Rattle.repair_queue.specs.Pools.{slot_in}
use Rattle.repair_queue.specs.Boards.{mark_of}
use Rattle.repair_queue.specs.Counts.{count_of, pending}
use Rattle.repair_queue.specs.Keeping.{IsCountedTo}
use Rattle.repair_queue.proofs.keeping.count_line.Given as goal

-- the unknown cells that were looked at are counted
abbrev pub invariant-loop-pos : goal.invariant-loop-pos
invariant-loop-pos l = record {
  width : l.counts.k ≡ l.fn.counts.k;
  next : l.counts.next ≡ l.fn.counts.next;
  so : IsCountedTo l.fn.counts.k (slot_in l.pool) (mark_of l.marks) l.axis l.index (count_of l.fn.counts) (count_of l.counts) (pending l.fn.counts) (pending l.counts)
      l.pos;
}
