-- The places that payments state, and what stands there in the square of their list.
use Rattle.std.proofs.Common.{◌≡◌, ◌∙◌, ℕ, ◌+◌, ◌-◌, ◌*◌, ◌^◌, ◌%◌, ◌<◌, ◌≤◌, nat_lt, min, List, [], ◌∷◌, ◌++◌, length, take, drop, replicate, get_or, Some, None, refl, sym, ap, subst, arith, length-append, length-take, length-drop}
use Rattle.std.specs.Prelude.{slice_get}
use Rattle.std.specs.List.{AllByRecursion}
use Rattle.std.proofs.lemmas.List.{drop-drop}
use Rattle.std.proofs.lemmas.Bool.{ltb-false}
use Rattle.namespace_id.specs.declared.shares.Share.{Share}
use Rattle.namespace_id.specs.Names.{tail_padding}
use Rattle.namespace_id.proofs.RefusalLemmas.{if_none}
use Rattle.share_split.specs.Widths.{subtree_width_of}
use Rattle.share_split.specs.Blobs.{NamedBytes, IsNamed, max_sequence_length, blob_shares_of}
use Rattle.share_split.specs.Units.{unit_text, units_text}
use Rattle.share_split.specs.Joined.{padding_share, IsBlob}
use Rattle.share_split.proofs.Writing.BlobLaws.{length-blob_shares_of}
use Rattle.square_layout.specs.Layout.{share_count_of, end_of}
use Rattle.square_layout.specs.Refusals.{max_shares, most_named}
use Rattle.square_layout.specs.Plans.{PlanParts, front, planned, plan_width}
use Rattle.square_layout.proofs.LeastWidthLemmas.{holding_holds}
use Rattle.square_layout.proofs.PlanLemmas.{length-front, planned_fits}
use Rattle.square_layout.proofs.StandingLemmas.{start_after-aligned}
use Rattle.tx_list.specs.declared.refusals.ListError.TheVariants.{TooLarge}
use Rattle.tx_list.specs.Payments.{PaymentParts, ListParts, blobs_of, IsPayment}
use Rattle.tx_list.specs.Wrapped.{wrapped, wrap_all}
use Rattle.tx_list.specs.Reserves.{list_reserve, list_bound}
use Rattle.tx_list.specs.Refusals.{list_size_refusal}
use Rattle.tx_list.specs.Lists.{list_places, written_list, plan_of_list, square_of_list}
use Rattle.tx_list.specs.Ranges.{StatesPlaces, IsStart, IsRangeOf}
use Rattle.tx_list.proofs.ListLemmas.{payments_some, list_is_low, list_has_room}
use Rattle.tx_list.proofs.StandingLemmas as standing
use Rattle.tx_list.proofs.UnwrapLemmas.{wrapped_tx_is, wrapped_places_are}
use Rattle.tx_list.proofs.BackLemmas.{small-take, small-drop, unit_within, text_few, low-small, blobs_held, stands_on}

-- ---- what a written payment states

-- a payment behind others is wrapped with the places behind theirs, and the unit is no longer than the text of all
record IsWrapped (units : List (List ℕ)) (places : List ℕ) (earlier : List PaymentParts) (payment : PaymentParts) : Type 0 where
  there : slice_get units (length earlier) ≡ Some (wrapped payment.tx (take (length payment.blobs) (drop (length (blobs_of earlier)) places)))
  within : length (wrapped payment.tx (take (length payment.blobs) (drop (length (blobs_of earlier)) places))) ≤ length (units_text units)

payment_wrapped : (earlier later : List PaymentParts) (payment : PaymentParts) (places : List ℕ)
    → IsWrapped (wrap_all (earlier ++ payment ∷ later) places) places earlier payment
unfolding wrap_all
payment_wrapped [] later payment places =
    let unit : List ℕ = wrapped payment.tx (take (length payment.blobs) places) in
    let others : List (List ℕ) = wrap_all later (drop (length payment.blobs) places) in
    record {
      there = refl;
      within = omega (arith, length-append (unit_text unit) (units_text others), unit_within unit);
    }
payment_wrapped (one ∷ earlier) later payment places =
    let count : ℕ = length one.blobs in
    let unit : List ℕ = wrapped one.tx (take count places) in
    let others : List (List ℕ) = wrap_all (earlier ++ payment ∷ later) (drop count places) in
    let rest = payment_wrapped earlier later payment (drop count places) in
    let own : List ℕ → List ℕ = λ left. wrapped payment.tx (take (length payment.blobs) left) in
    let left : drop (length (blobs_of earlier)) (drop count places) ≡ drop (length (blobs_of (one ∷ earlier))) places =
    drop-drop (length (blobs_of earlier)) count places
    ∙ ap (λ (n : ℕ). drop n places) (sym (length-append one.blobs (blobs_of earlier))) in
    record {
      there = rest.there ∙ ap (λ (l : List ℕ). Some (own l)) left;
      within =
          omega (arith, length-append (unit_text unit) (units_text others), rest.within, ap (λ (l : List ℕ). length (own l)) left);
    }

-- so what is read of it is its transaction, and the places of its blobs
pub places_stated : (list : ListParts) (earlier later : List PaymentParts) (payment : PaymentParts) → list_bound list ≤ max_shares
    → list.payments ≡ earlier ++ payment ∷ later → StatesPlaces list earlier payment
places_stated list earlier later payment few is =
    let places : List ℕ = list_places list in
    let own : List ℕ = take (length payment.blobs) (drop (length (blobs_of earlier)) places) in
    let one : IsWrapped (written_list list) places earlier payment =
    subst (λ (l : List PaymentParts). IsWrapped (wrap_all l places) places earlier payment) (sym is) (payment_wrapped earlier later payment places) in
    let short : length (units_text (written_list list)) ≤ max_sequence_length = text_few (written_list list) (omega (arith, list_has_room list few, few)) in
    let fits : length (wrapped payment.tx own) < 2 ^ 64 = omega (arith, one.within, short) in
    let small : AllByRecursion (λ place. place < 2 ^ 32) own =
    small-take (length payment.blobs) (2 ^ 32) (drop (length (blobs_of earlier)) places)
    (small-drop (length (blobs_of earlier)) (2 ^ 32) places (low-small places (list_is_low list few))) in
    record {
      unit = wrapped payment.tx own;
      there = one.there;
      tx = wrapped_tx_is payment.tx own fits;
      places = wrapped_places_are payment.tx own fits small;
    }

-- ---- what stands at a place

-- a part that is found whole behind a place ends in the list
ends_in : (n at : ℕ) (shares own : List Share) → take n (drop at shares) ≡ own → length own ≡ n → 1 ≤ n → at + n ≤ length shares
ends_in n at shares own is count some =
    omega (arith, sym (length-take n (drop at shares)) ∙ ap (λ (l : List Share). length l) is ∙ count, length-drop at shares, some)

pub place_is_start : (list : ListParts) (before after : List NamedBytes) (blob : NamedBytes) → blobs_of list.payments ≡ before ++ blob ∷ after
    → IsStart list (get_or (list_places list) (length before) 0) blob
place_is_start = standing.place_is_start

-- from each place on the square has the shares of its blob
pub range_is_there : (list : ListParts) (before after : List NamedBytes) (blob : NamedBytes) → list_bound list ≤ max_shares
    → blobs_of list.payments ≡ before ++ blob ∷ after → IsRangeOf (square_of_list list) (get_or (list_places list) (length before) 0) blob
range_is_there list before after blob few is =
    let plan : PlanParts = plan_of_list list in
    let place : ℕ = get_or (list_places list) (length before) 0 in
    let count : ℕ = share_count_of blob in
    let own : List Share = blob_shares_of blob.namespace blob.signer blob.bytes in
    let counted : length own ≡ count = length-blob_shares_of blob.namespace blob.signer blob.bytes in
    let some : 1 ≤ count = omega (arith, counted) in
    let here : take count (drop place (planned plan)) ≡ own = standing.list_stands list before after blob few is in
    let room : length (front plan) ≤ plan.reserve = omega (arith, length-front plan, list_has_room list few) in
    let start = place_is_start list before after blob is in
    let tail : List Share = replicate (plan_width plan * plan_width plan - length (planned plan)) (padding_share tail_padding) in
    record {
      some = some;
      inside =
          omega (arith, ends_in count place (planned plan) own here counted some, planned_fits plan room, holding_holds (list_bound list) few);
      aligned =
          ap (λ (n : ℕ). n % subtree_width_of count) start.start ∙ start_after-aligned (end_of (list_reserve list) start.before) blob;
      shares = stands_on count place (planned plan) tail own some (sym counted) here;
    }

-- ---- the blobs

-- the blobs of a list that isn't refused for its size are blobs
pub list_blobs : (list : ListParts) → AllByRecursion IsPayment list.payments → AllByRecursion IsNamed (blobs_of list.payments)
    → list_size_refusal list ≡ None → AllByRecursion IsBlob (blobs_of list.payments)
list_blobs list payments named fits =
    let within = if_none (nat_lt max_shares (list_bound list)) (TooLarge (min (list_bound list) most_named)) None fits in
    blobs_held (blobs_of list.payments) named (payments_some list.payments payments)
    (omega (arith, ltb-false max_shares (list_bound list) within.0))
