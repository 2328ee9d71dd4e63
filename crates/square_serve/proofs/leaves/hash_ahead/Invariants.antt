use Rattle.std.proofs.Common.{◌≡◌, ℕ, ◌*◌, ◌<◌, length, get_or}
use Rattle.square_serve.specs.Needed.{AreNeededLeaves}
use Rattle.square_serve.proofs.leaves.hash_ahead.Given as goal

-- the leaves so far, and fewer than eight positions that are gathered
abbrev pub invariant-loop-pos : goal.invariant-loop-pos
invariant-loop-pos l = record {
  needed : AreNeededLeaves l.fn.grid.k l.fn.grid.shares l.leaves;
  count : length l.positions ≡ 8;
  positions : (i : ℕ) → i < 8 → get_or l.positions i 0 < 2 * l.fn.grid.k;
  few : l.count < 8;
}
