use Rattle.std.proofs.Common.{◌≡◌, ◌∙◌, ◌++◌, ◌∷◌, [], None, Bool, if◌then◌else◌, List, sym, ap, subst, append-nil}
use Rattle.std.specs.Result.{is_ok}
use Rattle.share_split.specs.Blobs.{NamedBytes}
use Rattle.tx_list.specs.declared.checking.Judged.{Judged}
use Rattle.tx_list.specs.declared.checking.Judged.TheVariants as judged
use Rattle.tx_list.specs.Payments.{PaymentParts, IsPayment}
use Rattle.tx_list.specs.Walks.{taken_payments}
use Rattle.tx_list.proofs.TakingLemmas.{payment_has, payment_lacks, judged_taken, taken_payment, payment_parts_are}
use Rattle.tx_list.proofs.taking.read_one.Goals as goal

-- what is taken is a payment
pub invariant_of-push : goal.invariant_of-push
invariant_of-push c =
    let is : c.walk-walked.result.judged ≡ judged.Payment None = payment_has c.walk-walked.result.judged (sym c.has_payment.ensures ∙ c.if-not-has_payment.false) in
    let taken = judged_taken c.args.i c.args.bytes.now (sym c.walk-walked.ensures.judged ∙ is) in
    subst (λ (blobs : List NamedBytes). IsPayment (record { tx = c.in-Ok.tx.items; blobs = blobs }))
    (sym (c.walk-walked.ensures.blobs c.if-not-walked.false taken))
    (taken_payment c.in-Ok.tx.items c.args.bytes.now taken)

-- and the one that the transaction is
pub returns-clause-kept : goal.returns-clause-kept
returns-clause-kept c = λ kept.
    let is : c.walk-walked.result.judged ≡ judged.Payment None = payment_has c.walk-walked.result.judged (sym c.has_payment.ensures ∙ c.if-not-has_payment.false) in
    let judgement_is = sym c.walk-walked.ensures.judged ∙ is in
    let taken = judged_taken c.args.i c.args.bytes.now judgement_is in
    let parts : PaymentParts = record { tx = c.in-Ok.tx.items; blobs = c.walk-walked.new.blobs.items } in
    c.push.ensures.items
    ∙ ap (λ (b : Bool). if b then c.args.payments.now.items ++ (parts ∷ []) else c.args.payments.now.items) (ap is_ok c.in-Ok-push.is)
    ∙ ap (λ (payment : PaymentParts). c.args.payments.now.items ++ (payment ∷ []))
    (payment_parts_are c.args.bytes.now c.in-Ok.tx.items c.walk-walked.new.blobs.items (c.in-Ok.ensures ∙ c.walk-walked.ensures.tx taken)
    (c.walk-walked.ensures.blobs c.if-not-walked.false taken))
    ∙ sym (ap (λ (one : Judged). c.args.payments.now.items ++ taken_payments one c.args.bytes.now) judgement_is)

-- none is taken
pub returns-then-not-has_payment-clause-kept : goal.returns-then-not-has_payment-clause-kept
returns-then-not-has_payment-clause-kept c = λ kept.
    sym (append-nil c.args.payments.now.items)
    ∙ ap (λ (l : List PaymentParts). c.args.payments.now.items ++ l)
    (sym (payment_lacks c.walk-walked.result.judged c.args.bytes.now (sym c.has_payment.ensures ∙ c.if-not-has_payment.true))
    ∙ ap (λ (one : Judged). taken_payments one c.args.bytes.now) c.walk-walked.ensures.judged)
