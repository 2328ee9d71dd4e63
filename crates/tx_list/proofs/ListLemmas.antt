-- A list whose most shares are few can be planned: its places are low, and its compact shares end before its blobs.
use Rattle.std.proofs.Common.{true, false, if◌then◌else◌, ◌≡◌, ◌∙◌, ℕ, zero, suc, ◌+◌, ◌-◌, ◌*◌, ◌<◌, ◌≤◌, ◌==◌, nat_le, min, None, List, [], ◌∷◌, ◌++◌, length, map, replicate, refl, sym, ap, arith}
use Rattle.std.specs.List.{AllByRecursion}
use Rattle.std.specs.Int.{div_ceil}
use Rattle.namespace_id.specs.Lists.{holds_along}
use Rattle.namespace_id.specs.Names.{is_at_most, is_blob_namespace}
use Rattle.namespace_id.specs.Shares.{name_in}
use Rattle.share_split.specs.Blobs.{NamedBytes, count_from}
use Rattle.share_split.specs.Units.{unit_share_count}
use Rattle.square_layout.specs.Blocks.{BlockParts, HaveBytes}
use Rattle.square_layout.specs.Layout.{in_order, share_count_of, start_after, end_of, laid}
use Rattle.square_layout.specs.Refusals.{max_shares, most_named}
use Rattle.square_layout.specs.Plans.{PlanParts, starts_after, blobs_bound, planned, plan_width, square_of_plan}
use Rattle.square_layout.proofs.PlaceLemmas.{end_of-ge}
use Rattle.square_layout.proofs.PlanLemmas.{plan_in, end_of-bound, most-in_order, planned_is_laid}
use Rattle.square_layout.proofs.AcceptedLemmas.{blobs_between}
use Rattle.square_layout.proofs.NameLemmas.{plan_names_rise}
use Rattle.tx_list.specs.Payments.{PaymentParts, ListParts, blobs_of, IsLayable, IsPayment}
use Rattle.tx_list.specs.Reserves.{full_place, wrap_full, list_reserve, list_bound}
use Rattle.tx_list.specs.Places.{Numbered, BlobPlace, places_from, place_of, places_of, ordered}
use Rattle.tx_list.specs.Lists.{list_places, written_list, plan_of_list, block_of_list, square_of_list}
use Rattle.tx_list.specs.Steps.{unnumbered}
use Rattle.tx_list.proofs.PlaceLemmas.{numbered_in_order, length-places_of}
use Rattle.tx_list.proofs.ReserveLemmas.{at_most_full, shares-le}

-- ---- the blobs of a list

pub all-append : {A : Type 0} (P : A → Type 0) (xs ys : List A) → AllByRecursion P xs → AllByRecursion P ys → AllByRecursion P (xs ++ ys)
all-append P [] ys h k = k
all-append P (x ∷ xs) ys h k = (h.0, all-append P xs ys h.1 k)

all-weaker : (P Q : NamedBytes → Type 0) (blobs : List NamedBytes) → ((blob : NamedBytes) → P blob → Q blob) → AllByRecursion P blobs → AllByRecursion Q blobs
all-weaker P Q [] weaker all = tt
all-weaker P Q (blob ∷ blobs) weaker all = (weaker blob all.0, all-weaker P Q blobs weaker all.1)

-- each can be laid out
layable : (payments : List PaymentParts) → AllByRecursion IsPayment payments → AllByRecursion IsLayable (blobs_of payments)
layable [] all = tt
layable (payment ∷ payments) all = all-append IsLayable payment.blobs (blobs_of payments) all.0.blobs (layable payments all.1)

-- each has bytes
pub payments_some : (payments : List PaymentParts) → AllByRecursion IsPayment payments → HaveBytes (blobs_of payments)
payments_some payments all =
    all-weaker IsLayable (λ blob. 1 ≤ length blob.bytes) (blobs_of payments) (λ blob is. is.some) (layable payments all)

-- and a namespace of a blob
pub payments_named : (payments : List PaymentParts) → AllByRecursion IsPayment payments
    → AllByRecursion (λ blob. is_blob_namespace blob.namespace.0 ≡ true) (blobs_of payments)
payments_named payments all =
    all-weaker IsLayable (λ blob. is_blob_namespace blob.namespace.0 ≡ true) (blobs_of payments) (λ blob is. is.named) (layable payments all)

-- ---- places are low

-- bytes take a share
count_from-some : (first later size : ℕ) → 1 ≤ count_from first later size
count_from-some first later size = elim (nat_le size first) as (λ b. 1 ≤ (if b then 1 else 1 + div_ceil (size - first) later)) [
  | true ↦ omega arith
  | false ↦ omega arith
]

count_of-some : (blob : NamedBytes) → 1 ≤ share_count_of blob
count_of-some blob = count_from-some _ _ (length blob.bytes)

-- places are below the end of the last blob
places_from-below : (end most : ℕ) (all : List Numbered) → end_of end (unnumbered all) ≤ most
    → AllByRecursion (λ place. place.start < most) (places_from end all)
unfolding places_from end_of
places_from-below end most [] h = tt
places_from-below end most (one ∷ others) h =
    let next : ℕ = start_after end one.blob + share_count_of one.blob in
    (omega (arith, h, end_of-ge next (unnumbered others), count_of-some one.blob), places_from-below next most others h)

place_of-below : (found i most : ℕ) (places : List BlobPlace) → found < most → AllByRecursion (λ place. place.start < most) places
    → place_of found i places < most
unfolding place_of
place_of-below found i most [] low all = low
place_of-below found i most (place ∷ places) low all =
    place_of-below (if place.number == i then place.start else found) i most places
    (elim (place.number == i) as (λ b. (if b then place.start else found) < most) [ true ↦ all.0 | false ↦ low ]) all.1

places_of-below : (i count most : ℕ) (places : List BlobPlace) → 0 < most → AllByRecursion (λ place. place.start < most) places
    → AllByRecursion (λ n. n < most) (places_of i count places)
unfolding places_of
places_of-below i zero most places some all = tt
places_of-below i (suc count) most places some all =
    (place_of-below 0 i most places some all, places_of-below (suc i) count most places some all)

-- blobs end within the most that they may take
pub ends_within : (reserve : ℕ) (blobs : List NamedBytes) → end_of reserve (in_order blobs) ≤ reserve + blobs_bound blobs
ends_within reserve blobs = omega (arith, end_of-bound reserve (in_order blobs), most-in_order blobs)

-- so they fit where that is few
pub ends_fit : (reserve most : ℕ) (blobs : List NamedBytes) → most ≡ min (reserve + blobs_bound blobs) most_named → most ≤ max_shares
    → end_of reserve (in_order blobs) ≤ max_shares
ends_fit reserve most blobs is few = omega (arith, ends_within reserve blobs, is, few)

-- each place of a list is in the greatest square
pub list_is_low : (list : ListParts) → list_bound list ≤ max_shares → AllByRecursion (λ place. place < max_shares) (list_places list)
list_is_low list few =
    let blobs : List NamedBytes = blobs_of list.payments in
    let ends : end_of (list_reserve list) (unnumbered (ordered blobs)) ≤ max_shares =
    omega (arith, ap (end_of (list_reserve list)) (numbered_in_order blobs), ends_within (list_reserve list) blobs, few) in
    places_of-below 0 (length blobs) max_shares (places_from (list_reserve list) (ordered blobs)) (omega arith)
    (places_from-below (list_reserve list) max_shares (ordered blobs) ends)

-- so its compact shares end at or before the place before which no blob starts
pub list_has_room : (list : ListParts) → list_bound list ≤ max_shares
    → unit_share_count list.units + unit_share_count (written_list list) ≤ list_reserve list
list_has_room list few =
    let blobs : List NamedBytes = blobs_of list.payments in
    let low = at_most_full (list_places list) (length blobs) (length-places_of 0 (length blobs) (places_from (list_reserve list) (ordered blobs))) (list_is_low list few) in
    omega (arith, shares-le list.payments (list_places list) (replicate (length blobs) full_place) low)

-- ---- the square

-- what is planned is the square of the list
pub plan_same : (list : ListParts) (units pay_units : List (List ℕ)) (blobs : List NamedBytes) (reserve : ℕ) → units ≡ list.units → pay_units ≡ written_list list
    → blobs ≡ blobs_of list.payments → reserve ≡ list_reserve list → square_of_plan (plan_in units pay_units blobs reserve) ≡ square_of_list list
plan_same list units pay_units blobs reserve u p b r = λ i. square_of_plan (plan_in (u i) (p i) (b i) (r i))

-- the namespaces of its shares never fall
pub list_names_rise : (list : ListParts) → AllByRecursion IsPayment list.payments → holds_along is_at_most (map name_in (square_of_list list).shares) ≡ true
list_names_rise list all =
    let plan : PlanParts = plan_of_list list in
    plan_names_rise plan (plan_width plan * plan_width plan - length (planned plan)) (blobs_between plan.blobs (payments_named list.payments all))

-- blobs start where they do in a square
pub places_are_starts : (end : ℕ) (all : List Numbered) → map (λ place. place.start) (places_from end all) ≡ starts_after end (unnumbered all)
unfolding places_from starts_after
places_are_starts end [] = refl
places_are_starts end (one ∷ others) =
    ap (λ (l : List ℕ). start_after end one.blob ∷ l) (places_are_starts (start_after end one.blob + share_count_of one.blob) others)

pub starts_are : (end : ℕ) (blobs : List NamedBytes) → map (λ place. place.start) (places_from end (ordered blobs)) ≡ starts_after end (in_order blobs)
starts_are end blobs = places_are_starts end (ordered blobs) ∙ ap (starts_after end) (numbered_in_order blobs)

-- a list without signers, whose payments take as many compact shares as are reserved, is laid out as a block
pub list_is_block : (list : ListParts) → unit_share_count (written_list list) ≡ unit_share_count (wrap_full list.payments)
    → AllByRecursion (λ blob. blob.signer ≡ None) (blobs_of list.payments) → planned (plan_of_list list) ≡ laid (block_of_list list)
list_is_block list full none =
    let block : BlockParts = block_of_list list in
    let reserve : list_reserve list ≡ unit_share_count list.units + unit_share_count (written_list list) = ap (λ (n : ℕ). unit_share_count list.units + n) (sym full) in
    ap (λ (r : ℕ). planned (plan_in list.units (written_list list) (blobs_of list.payments) r)) reserve ∙ planned_is_laid block none
