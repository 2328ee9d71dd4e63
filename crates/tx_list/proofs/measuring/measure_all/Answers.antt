use Rattle.std.proofs.Common.{ap, map, arith}
use Rattle.std.proofs.lemmas.List.{drop_all}
use Rattle.std.proofs.lemmas.Result.{err_from_is_err_and}
use Rattle.tx_list.specs.Payments.{blobs_of}
use Rattle.tx_list.specs.BackRefusals.{payment_at}
use Rattle.tx_list.proofs.CheckLemmas.{drop-one}
use Rattle.tx_list.proofs.MeasureLemmas.{with_none, payment_measured, counted_more}
use Rattle.tx_list.proofs.UnlayLemmas.{wrapper_found, wrapper_passed, wrappers_end}
use Rattle.tx_list.proofs.measuring.measure_all.Goals as goal

pub returns-in_err-measure-clause-first : goal.returns-in_err-measure-clause-first
returns-in_err-measure-clause-first c =
    let p = err_from_is_err_and c.from_residual.result c.from_residual.ensures.1 in
    rw (p.1, p.2)
    (wrapper_found c.loop-i.i c.args.shares.now c.index-units-i.result _ _ c.in_err-measure.field-0.0 _
    (drop-one c.args.units.now c.loop-i.i c.index-units-i.result c.loop-i-test.true c.index-units-i.is) c.in_err-measure.ensures.first c.loop-i.invariant.same)

pub loop-i-preserved : goal.loop-i-preserved
loop-i-preserved c =
    let left = drop-one c.args.units.now c.loop-i.i c.index-units-i.result c.loop-i-test.true c.index-units-i.is in
    record {
      same = wrapper_passed c.loop-i.i c.args.shares.now c.index-units-i.result _ _ _ left c.in_ok-measure.ensures.first c.loop-i.invariant.same;
      all = payment_measured c.args.shares.now c.index-units-i.result _ _ c.loop-i.all c.joined-all.result c.in_ok-measure.measure _ left
          c.in_ok-measure.ensures.measure c.joined-all.ensures.bound c.joined-all.ensures.named c.loop-i.invariant.all;
      fits = omega (arith, c.joined-all.ensures.bound);
      counted = counted_more c.index-units-i.result _ _ c.args.units.now left c.in_ok-measure.ensures.counted c.loop-i.invariant.counted;
      known = c.in_ok-measure.ensures.known;
    }

pub returns-clause-first : goal.returns-clause-first
returns-clause-first c = wrappers_end c.loop-i.i c.args.shares.now c.args.units.now _ c.loop-i-test.false c.loop-i.invariant.same

-- no unit is left
pub returns-clause-measure : goal.returns-clause-measure
returns-clause-measure c =
    with_none c.loop-i.all _ _
    (ap (λ l. blobs_of (map (payment_at c.args.shares.now) l)) (drop_all c.loop-i.i c.args.units.now c.loop-i-test.false)) c.loop-i.invariant.fits
    c.loop-i.invariant.all
