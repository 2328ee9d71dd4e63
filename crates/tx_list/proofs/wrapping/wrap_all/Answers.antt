use Rattle.std.proofs.Common.{◌≡◌, ◌∙◌, ◌+◌, ℕ, List, length, take, drop, ap, arith}
use Rattle.std.proofs.lemmas.List.{drop_all}
use Rattle.tx_list.specs.Payments.{PaymentParts}
use Rattle.tx_list.specs.Wrapped.{wrapped}
use Rattle.tx_list.proofs.WrapLemmas.{drop-payment, wrap_on, count_on, wrap_none}
use Rattle.tx_list.proofs.wrapping.wrap_all.Goals as goal

pub loop-payment-preserved : goal.loop-payment-preserved
loop-payment-preserved c =
    let payment : PaymentParts = c.payment-item.result in
    let others : List PaymentParts = drop (c.loop-payment.payment-index + 1) c.args.payments.now in
    let left = drop-payment c.args.payments.now c.loop-payment.payment-index payment c.loop-payment-test.true c.payment-item.is in
    let count : c.len.result ≡ length payment.blobs = omega (arith, c.len.ensures, ap (λ (p : PaymentParts). length p.blobs) c.payment.view_is) in
    let own : c.split_at.result.0.now ≡ take (length payment.blobs) c.loop-payment.left.now =
    c.split_at.ensures.front ∙ ap (λ (n : ℕ). take n c.loop-payment.left.now) count in
    let back : c.split_at.result.1.now ≡ drop (length payment.blobs) c.loop-payment.left.now =
    c.split_at.ensures.back ∙ ap (λ (n : ℕ). drop n c.loop-payment.left.now) count in
    let unit : c.in_ok-wrapped.field-0 ≡ wrapped payment.tx c.split_at.result.0.now =
    c.in_ok-wrapped.ensures ∙ ap (λ (tx : List ℕ). wrapped tx c.split_at.result.0.now)
    (c.deref.ensures.value ∙ ap (λ (p : PaymentParts). p.tx) c.payment.view_is) in
    record {
      all = wrap_on payment _ others c.loop-payment.left.now _ c.split_at.result.1.now _ c.loop-payment.units.items c.push.new.self.items _ left own back unit
          c.in-Ok.ensures.items c.loop-payment.invariant.all;
      count = count_on payment _ others c.loop-payment.left.now c.split_at.result.1.now left back c.loop-payment.invariant.count;
    }

pub returns : goal.returns
returns c =
    wrap_none _ c.loop-payment.left.now c.loop-payment.units.items _
    (drop_all c.loop-payment.payment-index c.args.payments.now c.loop-payment-test.false) c.loop-payment.invariant.all
