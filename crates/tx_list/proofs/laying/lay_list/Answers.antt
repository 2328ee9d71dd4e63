use Rattle.std.proofs.Common.{◌≡◌, ◌∙◌, List, length, map, ap, ap₂, sym, subst, arith}
use Rattle.std.specs.List.{AllByRecursion}
use Rattle.namespace_id.specs.Lists.{holds_along}
use Rattle.namespace_id.specs.Names.{is_at_most}
use Rattle.namespace_id.specs.Shares.{name_in}
use Rattle.share_split.specs.Units.{unit_share_count}
use Rattle.square_layout.specs.Blocks.{HaveBytes, SquareShares}
use Rattle.tx_list.specs.Payments.{PaymentParts, ListParts, blobs_of, IsPayment}
use Rattle.tx_list.specs.Wrapped.{wrap_all}
use Rattle.tx_list.specs.Reserves.{list_reserve}
use Rattle.tx_list.specs.Places.{places_from, ordered}
use Rattle.tx_list.specs.Lists.{written_list, square_of_list}
use Rattle.tx_list.proofs.PlaceLemmas.{length-places_of}
use Rattle.tx_list.proofs.ListLemmas.{payments_some, list_has_room, plan_same, list_names_rise}
use Rattle.tx_list.proofs.laying.lay_list.Goals as goal

pub wrap_all-requires : goal.wrap_all-requires
wrap_all-requires c =
    let list : ListParts = c.args.list.now in
    let payments : c.deref.result.now ≡ list.payments = c.deref.ensures.value ∙ ap (λ (l : ListParts). l.payments) c.list.view_is in
    ap length (c.deref-2.ensures.value ∙ c.in_ok-placed.ensures.places)
    ∙ length-places_of 0 (length (blobs_of list.payments)) (places_from (list_reserve list) (ordered (blobs_of list.payments)))
    ∙ sym (ap (λ (l : List PaymentParts). length (blobs_of l)) payments)

pub lay_plan-requires-clause-some : goal.lay_plan-requires-clause-some
lay_plan-requires-clause-some c =
    let all : AllByRecursion IsPayment c.args.list.now.payments = subst (λ (l : ListParts). AllByRecursion IsPayment l.payments) c.list.view_is c.list.invariant in
    subst HaveBytes (sym c.in_ok-placed.ensures.blobs) (payments_some c.args.list.now.payments all)

pub lay_plan-requires-clause-room : goal.lay_plan-requires-clause-room
lay_plan-requires-clause-room c =
    let list : ListParts = c.args.list.now in
    let payments : c.deref.result.now ≡ list.payments = c.deref.ensures.value ∙ ap (λ (l : ListParts). l.payments) c.list.view_is in
    let units : c.deref-3.result.now ≡ list.units = c.deref-3.ensures.value ∙ ap (λ (l : ListParts). l.units) c.list.view_is in
    let pay : c.deref-4.result.now ≡ written_list list =
    c.deref-4.ensures.value ∙ c.in-Ok.ensures ∙ ap₂ wrap_all payments (c.deref-2.ensures.value ∙ c.in_ok-placed.ensures.places) in
    omega (arith, ap unit_share_count units, ap unit_share_count pay, list_has_room list c.in_ok-placed.ensures.few, c.in_ok-placed.ensures.reserve)

pub returns-clause-names : goal.returns-clause-names
returns-clause-names c =
    let list : ListParts = c.args.list.now in
    let all : AllByRecursion IsPayment list.payments = subst (λ (l : ListParts). AllByRecursion IsPayment l.payments) c.list.view_is c.list.invariant in
    let payments : c.deref.result.now ≡ list.payments = c.deref.ensures.value ∙ ap (λ (l : ListParts). l.payments) c.list.view_is in
    let units : c.deref-3.result.now ≡ list.units = c.deref-3.ensures.value ∙ ap (λ (l : ListParts). l.units) c.list.view_is in
    let pay : c.deref-4.result.now ≡ written_list list =
    c.deref-4.ensures.value ∙ c.in-Ok.ensures ∙ ap₂ wrap_all payments (c.deref-2.ensures.value ∙ c.in_ok-placed.ensures.places) in
    let made : c.in-Ok-lay_plan.square ≡ square_of_list list =
    c.in-Ok-lay_plan.ensures ∙ plan_same list _ _ _ _ units pay c.in_ok-placed.ensures.blobs c.in_ok-placed.ensures.reserve in
    ap (λ (s : SquareShares). holds_along is_at_most (map name_in s.shares)) made ∙ list_names_rise list all
