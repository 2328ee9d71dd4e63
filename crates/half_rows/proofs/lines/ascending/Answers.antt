use Rattle.std.proofs.Common.{◌∙◌, sym, arith}
use Rattle.half_rows.proofs.PlaceLemmas.{ascending-none, ascending-next}
use Rattle.half_rows.proofs.lines.ascending.Goals as goal

-- none yet
pub loop-number-init : goal.loop-number-init
loop-number-init c = record {
  items = c.in_ok-numbers.ensures.items ∙ sym (ascending-none c.args.first);
  low = omega arith;
}

-- one more
pub loop-number-preserved : goal.loop-number-preserved
loop-number-preserved c = record {
  items = c.in-Ok.ensures.items ∙ ascending-next c.args.first c.loop-number.number c.loop-number.numbers.items c.loop-number.invariant.low c.loop-number.invariant.items;
  low = omega (arith, c.loop-number.invariant.low);
}
