use Rattle.std.proofs.lemmas.Result.{err_from_is_err_and}
use Rattle.tx_list.proofs.CheckLemmas.{drop-one}
use Rattle.tx_list.proofs.UnlayLemmas.{wrapper_found, wrapper_passed, payment_more, wrappers_end}
use Rattle.tx_list.proofs.unlaying.push_payments.Goals as goal

pub returns-in_err-payment-clause-first : goal.returns-in_err-payment-clause-first
returns-in_err-payment-clause-first c =
    let p = err_from_is_err_and c.from_residual.result c.from_residual.ensures.1 in
    rw (p.1, p.2)
    (wrapper_found c.loop-i.i c.args.shares.now c.index-units-i.result _ _ c.in_err-payment.field-0.0 _
    (drop-one c.args.units.now c.loop-i.i c.index-units-i.result c.loop-i-test.true c.index-units-i.is) c.in_err-payment.ensures.first c.loop-i.invariant.same)

pub loop-i-preserved : goal.loop-i-preserved
loop-i-preserved c =
    let left = drop-one c.args.units.now c.loop-i.i c.index-units-i.result c.loop-i-test.true c.index-units-i.is in
    record {
      same = wrapper_passed c.loop-i.i c.args.shares.now c.index-units-i.result _ _ _ left c.in_ok-payment.ensures.first c.loop-i.invariant.same;
      all = payment_more c.args.shares.now c.index-units-i.result c.in_ok-payment.payment _ _ c.loop-i.out.items c.push.new.self.items _ left
          c.in_ok-payment.ensures.payment c.in-Ok.ensures.items c.loop-i.invariant.all;
    }

pub returns-clause-first : goal.returns-clause-first
returns-clause-first c = wrappers_end c.loop-i.i c.args.shares.now c.args.units.now _ c.loop-i-test.false c.loop-i.invariant.same
