use Rattle.std.proofs.Common.{◌∙◌, sym, ap, subst}
use Rattle.std.specs.List.{AllByRecursion}
use Rattle.tx_list.specs.Payments.{PaymentParts, ListParts, IsPayment}
use Rattle.da_serving.proofs.CommitLemmas.{IsLaid, laid_payments}
use Rattle.da_serving.proofs.commit.list_lines.Goals as goal

-- the payments of a list that isn't refused for its size
pub payment_lines-requires : goal.payment_lines-requires
payment_lines-requires c =
    let own = subst (λ (l : ListParts). AllByRecursion IsPayment l.payments) c.list.view_is c.list.invariant in
    subst (AllByRecursion (λ (payment : PaymentParts). AllByRecursion IsLaid payment.blobs))
    (sym (c.deref.ensures.value ∙ ap (λ (l : ListParts). l.payments) c.list.view_is)) (laid_payments c.in_ok-list.list own c.in_ok-places.ensures.first)
