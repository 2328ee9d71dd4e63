use Rattle.std.proofs.Common.{◌∙◌, inr, sym, ap, arith}
use Rattle.std.proofs.lemmas.List.{drop_all}
use Rattle.tx_list.specs.BackRefusals.{blobs_at}
use Rattle.tx_list.proofs.MeasureLemmas.{with_none, found_none, found_some, place_measured}
use Rattle.tx_list.proofs.UnlayLemmas.{place_missing, place_passed, places_end}
use Rattle.tx_list.proofs.measuring.measure_places.Goals as goal

pub returns-in_default-found-clause-first : goal.returns-in_default-found-clause-first
returns-in_default-found-clause-first c =
    inr (place_missing c.args.i c.loop-j.j c.args.shares.now c.args.places.now _ c.loop-j-test.true
    (found_none _ (sym c.in-Ok.ensures.found ∙ c.in_default-found.is)) c.loop-j.invariant.same)

pub loop-j-preserved : goal.loop-j-preserved
loop-j-preserved c =
    let one = found_some _ c.in-Some.measure (sym c.in-Ok.ensures.found ∙ c.in-Some.is) in
    record {
      same = place_passed c.args.i c.loop-j.j c.args.shares.now c.args.places.now one.0 _ c.loop-j-test.true one.1.0 c.loop-j.invariant.same;
      all = place_measured c.loop-j.j c.args.shares.now c.args.places.now one.0 c.loop-j.all c.joined-all.result c.in-Some.measure _ c.loop-j-test.true
          one.1.0 one.1.1 c.joined-all.ensures.bound c.joined-all.ensures.named c.loop-j.invariant.all;
      fits = omega (arith, c.joined-all.ensures.bound);
      known = c.in-Ok.ensures.known;
    }

pub returns-clause-first : goal.returns-clause-first
returns-clause-first c = places_end c.args.i c.loop-j.j c.args.shares.now c.args.places.now _ c.loop-j-test.false c.loop-j.invariant.same

-- no place is left
pub returns-clause-measure : goal.returns-clause-measure
returns-clause-measure c =
    with_none c.loop-j.all _ _ (ap (blobs_at c.args.shares.now) (drop_all c.loop-j.j c.args.places.now c.loop-j-test.false)) c.loop-j.invariant.fits
    c.loop-j.invariant.all
