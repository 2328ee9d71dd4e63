use Rattle.std.proofs.Common.{◌+◌, ◌-◌, ◌/◌, ◌≤◌, ◌<◌, ℕ, get_or, arith}
use Rattle.sampling.proofs.TakenLemmas.{passed-le, passed_beyond, passed_within}
use Rattle.sampling.proofs.taken.passed.Goals as goal

pub loop-low-init : goal.loop-low-init
loop-low-init c = record {
  low = omega arith;
  high = passed-le c.args.taken.now c.args.place;
  bound = omega arith;
}

-- the place would be moved beyond the taken one in the middle
pub loop-low-preserved-then-taken-middle : goal.loop-low-preserved-then-taken-middle
loop-low-preserved-then-taken-middle c =
    let middle : ℕ = c.loop-low.low + (c.loop-low.high - c.loop-low.low) / 2 in
    let within : middle < c.loop-low.high = omega (arith, c.loop-low-test.true) in
    let at : get_or c.args.taken.now middle 0 ≤ c.args.place + middle = omega (arith, c.if-taken-middle.true) in record {
      low = passed_beyond c.args.taken.now 0 c.args.place middle c.requires.ascend (omega (arith, within, c.loop-low.invariant.bound)) at;
      high = c.loop-low.invariant.high;
      bound = c.loop-low.invariant.bound;
    }

-- it wouldn't
pub loop-low-preserved : goal.loop-low-preserved
loop-low-preserved c =
    let middle : ℕ = c.loop-low.low + (c.loop-low.high - c.loop-low.low) / 2 in
    let within : middle < c.loop-low.high = omega (arith, c.loop-low-test.true) in
    let at : c.args.place + middle < get_or c.args.taken.now middle 0 = omega (arith, c.if-taken-middle.false) in record {
      low = c.loop-low.invariant.low;
      high = passed_within c.args.taken.now c.args.place middle (omega (arith, within, c.loop-low.invariant.bound)) at;
      bound = omega (arith, within, c.loop-low.invariant.bound);
    }
