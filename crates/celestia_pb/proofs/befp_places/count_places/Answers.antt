use Rattle.std.proofs.Common.{◌∙◌, None, sym, arith}
use Rattle.celestia_pb.proofs.PlaceLoops.{count_at-end, count_at-one, count_at-full, count_at-more}
use Rattle.celestia_pb.proofs.befp_places.count_places.Goals as goal

-- none is there
pub returns-then-not-begins_part-clause-value : goal.returns-then-not-begins_part-clause-value
returns-then-not-begins_part-clause-value c =
    c.loop-count.invariant.all ∙ count_at-end c.loop-count.count _ c.loop-count.rest.now (sym c.begins_part.ensures ∙ c.if-not-begins_part.true)

-- the length of one is wrong
pub returns-in_default-clause-value : goal.returns-in_default-clause-value
returns-in_default-clause-value c =
    c.loop-count.invariant.all
    ∙ count_at-one c.loop-count.count c.loop-count.rest.now None c.loop-count-test.true (sym c.begins_part.ensures ∙ c.if-not-begins_part.false)
    c.in_default.ensures.value

-- one more is counted
pub loop-count-preserved : goal.loop-count-preserved
loop-count-preserved c = record {
  all = c.loop-count.invariant.all
      ∙ count_at-more c.loop-count.count c.loop-count.rest.now c.in-Some._part.now c.in-Some.after.now c.loop-count-test.true
      (sym c.begins_part.ensures ∙ c.if-not-begins_part.false) c.in-Some.ensures.value;
  few = omega (arith, c.loop-count-test.true);
}

-- no more may be there
pub returns-clause-value : goal.returns-clause-value
returns-clause-value c = c.loop-count.invariant.all ∙ count_at-full c.loop-count.count c.loop-count.rest.now c.loop-count-test.false
