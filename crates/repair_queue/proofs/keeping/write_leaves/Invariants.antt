use Rattle.std.proofs.Common.{◌≡◌, ◌*◌, length}
use Rattle.repair_queue.specs.Keeping.{AreWrittenLeaves}
use Rattle.repair_queue.proofs.keeping.write_leaves.Given as goal

-- the digests so far
abbrev pub invariant-loop-pos : goal.invariant-loop-pos
invariant-loop-pos l = record {
  count : length l.leaves.items ≡ 2 * l.k * (2 * l.k);
  written : AreWrittenLeaves l.k l.fn.leaves.items l.leaves.items l.axis l.index l.digests l.pos;
}
