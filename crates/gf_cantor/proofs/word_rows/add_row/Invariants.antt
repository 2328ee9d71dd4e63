use Rattle.std.proofs.Common.{◌≡◌, ℕ, ◌<◌, ◌≤◌, get_or}
use Rattle.std.specs.Prelude.{bit_xor}
use Rattle.gf_cantor.proofs.word_rows.add_row.Given as goal

-- the bytes so far have gained those of the row, and the others are as they were
abbrev pub invariant-loop-i : goal.invariant-loop-i
invariant-loop-i l = record {
  done : (k : ℕ) → k < l.i → get_or l.sums k 0 ≡ bit_xor (get_or l.fn.sums k 0) (get_or l.row k 0);
  left : (k : ℕ) → l.i ≤ k → get_or l.sums k 0 ≡ get_or l.fn.sums k 0;
}
