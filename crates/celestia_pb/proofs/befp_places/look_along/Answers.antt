use Rattle.std.proofs.Common.{◌∙◌, Err, sym, ap, arith}
use Rattle.celestia_pb.specs.BefpEntries.{seen_read}
use Rattle.celestia_pb.proofs.Steps.{err_reads}
use Rattle.celestia_pb.proofs.PlaceLoops.{places_at-end, places_at-one, places_at-full, seen_more}
use Rattle.celestia_pb.proofs.befp_places.look_along.Goals as goal

-- none is there
pub returns-then-not-begins_part-clause-value : goal.returns-then-not-begins_part-clause-value
returns-then-not-begins_part-clause-value c =
    c.loop-seen.invariant.all
    ∙ ap seen_read (places_at-end c.args.accused c.args.most _ c.loop-seen.seen c.loop-seen.rest.now (sym c.begins_part.ensures ∙ c.if-not-begins_part.true))

-- a field of one is wrong
pub returns-in_err-_sample-clause-value : goal.returns-in_err-_sample-clause-value
returns-in_err-_sample-clause-value c =
    err_reads _ c.from_residual.result _ _
    (
    c.loop-seen.invariant.all
    ∙ ap seen_read (places_at-one c.args.accused c.args.most c.loop-seen.seen c.loop-seen.rest.now (Err c.in_err-_sample.field-0.0) c.loop-seen-test.true
    (sym c.begins_part.ensures ∙ c.if-not-begins_part.false) c.in_err-_sample.ensures.value))
    c.from_residual.ensures

-- one more is seen
pub loop-seen-preserved : goal.loop-seen-preserved
loop-seen-preserved c = record {
  all = seen_more c.args.accused c.args.most c.loop-seen.seen c.loop-seen.rest.now c.in_ok-_sample._sample c.in_ok-_sample.next c.in_ok-_sample.after.now
      c.loop-seen-test.true (sym c.begins_part.ensures ∙ c.if-not-begins_part.false) c.in_ok-_sample.ensures.value c.in_ok-_sample.ensures.place _
      c.loop-seen.invariant.all;
  few = omega (arith, c.in_ok-_sample.ensures.place, c.loop-seen-test.true);
  shares = c.in_ok-_sample.ensures.shares;
}

-- no more may be there
pub returns-clause-value : goal.returns-clause-value
returns-clause-value c =
    c.loop-seen.invariant.all ∙ ap seen_read (places_at-full c.args.accused c.args.most c.loop-seen.seen c.loop-seen.rest.now c.loop-seen-test.false)
