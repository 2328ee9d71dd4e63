use Rattle.std.proofs.Common.{◌≡◌, ◌∙◌, ◌+◌, min, ap, sym, subst, arith}
use Rattle.square_layout.specs.Blocks.{HaveBytes}
use Rattle.square_layout.specs.Plans.{blobs_bound}
use Rattle.square_layout.specs.Refusals.{most_named}
use Rattle.square_layout.proofs.CountLemmas.{lent}
use Rattle.tx_list.specs.Payments.{blobs_of}
use Rattle.tx_list.proofs.ListLemmas.{payments_some, ends_fit}
use Rattle.tx_list.proofs.laying.place_blobs.Goals as goal

pub plan_bound-most-requires : goal.plan_bound-most-requires
plan_bound-most-requires c =
    let blobs : lent c.deref-2.result.now ≡ blobs_of c.list.inside.payments.items =
    ap lent c.deref-2.ensures.value ∙ c.in-Ok.ensures ∙ ap blobs_of c.deref.ensures.value in
    subst HaveBytes (sym blobs) (payments_some c.list.inside.payments.items c.list.invariant)

pub blob_places-requires-clause-some : goal.blob_places-requires-clause-some
blob_places-requires-clause-some c =
    let blobs : lent c.deref-3.result.now ≡ blobs_of c.list.inside.payments.items =
    ap lent c.deref-3.ensures.value ∙ c.in-Ok.ensures ∙ ap blobs_of c.deref.ensures.value in
    subst HaveBytes (sym blobs) (payments_some c.list.inside.payments.items c.list.invariant)

pub blob_places-requires-clause-fits : goal.blob_places-requires-clause-fits
blob_places-requires-clause-fits c =
    let same : c.deref-2.result.now ≡ c.deref-3.result.now = c.deref-2.ensures.value ∙ sym c.deref-3.ensures.value in
    ends_fit c.in-Ok-list_reserve.reserve c.plan_bound-most.result (lent c.deref-3.result.now)
    (c.plan_bound-most.ensures ∙ ap (λ l. min (c.in-Ok-list_reserve.reserve + blobs_bound (lent l)) most_named) same) (omega (arith, c.if-most-gt-MAX_SHARES.false))
