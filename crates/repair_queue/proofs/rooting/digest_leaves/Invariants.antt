use Rattle.std.proofs.Common.{◌≡◌, ◌*◌, ◌-◌, ◌≤◌, length}
use Rattle.axis_roots.specs.Trees.{line_leaves}
use Rattle.repair_queue.specs.Boards.{AreLeavesTo}
use Rattle.repair_queue.proofs.rooting.digest_leaves.Given as goal

-- the digests so far
abbrev pub invariant-loop-pos : goal.invariant-loop-pos
invariant-loop-pos l = record {
  within : l.pos ≤ 2 * l.header.k;
  count : length l.digests ≡ 2 * l.header.k;
  so : AreLeavesTo (line_leaves l.header.k l.axis l.index l.line) l.pos l.digests;
}

abbrev pub decreases-loop-pos : goal.decreases-loop-pos
decreases-loop-pos l = 2 * l.header.k - l.pos
