use Rattle.std.proofs.Common.{◌≡◌, ℕ, ◌<◌, ◌++◌}
use Rattle.leopard_code.specs.Codewords.{IsCodeword}
use Rattle.axis_roots.specs.Quarters.{quarter_column}
use Rattle.axis_roots.proofs.square.quarters.fill_quarter.Given as goal

-- the columns so far
abbrev pub invariant-loop-col : goal.invariant-loop-col
invariant-loop-col l = record {
  room : l.room ≡ l.fn.room;
  codewords : (c : ℕ) → c < l.col → IsCodeword l.square.k (quarter_column l.square.k l.square.shares c ++ quarter_column l.square.k l.quarter c);
}
