use Rattle.std.proofs.Common.{◌<◌, ◌≢◌, ap, arith, length, get_or, get_or-set_other, get_or-set_same, below_more, ℕ}
use Rattle.std.specs.Prelude.{bit_xor}
use Rattle.gf_cantor.proofs.word_rows.add_row.Goals as goal

-- the byte at i gains that of the row; no other byte changes
pub loop-i-preserved : goal.loop-i-preserved
loop-i-preserved c = record {
  done = below_more _ _
      (λ k h. let ne : k ≢ c.loop-i.i = omega arith in rw get_or-set_other (c.loop-i.invariant.done k h))
      (let lt : c.loop-i.i < length c.loop-i.sums = omega arith in
      rw get_or-set_same (ap (λ (x : ℕ). bit_xor x (get_or c.args.row.now c.loop-i.i 0)) (c.loop-i.invariant.left c.loop-i.i (omega arith))));
  left = λ k h. let ne : k ≢ c.loop-i.i = omega arith in rw get_or-set_other (c.loop-i.invariant.left k (omega arith));
}
