use Rattle.std.proofs.Common.{◌≡◌, ◌∙◌, ap, sym, subst}
use Rattle.square_layout.specs.Blocks.{HaveBytes}
use Rattle.square_layout.proofs.CountLemmas.{lent}
use Rattle.tx_list.specs.Payments.{blobs_of}
use Rattle.tx_list.proofs.ListLemmas.{payments_some}
use Rattle.tx_list.proofs.bounding.bound_with.Goals as goal

pub plan_bound-requires : goal.plan_bound-requires
plan_bound-requires c =
    let blobs : lent c.deref-4.result.now ≡ blobs_of c.list.inside.payments.items =
    ap lent c.deref-4.ensures.value ∙ c.in_ok-blobs.ensures ∙ ap blobs_of c.deref-3.ensures.value in
    subst HaveBytes (sym blobs) (payments_some c.list.inside.payments.items c.list.invariant)
