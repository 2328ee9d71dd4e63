-- Each blob of a list stands at its place.
use Rattle.std.proofs.Common.{true, false, if◌then◌else◌, ◌≡◌, ◌∙◌, ℕ, suc, ◌+◌, ◌<◌, ◌≤◌, ◌==◌, Bool, List, [], ◌∷◌, ◌++◌, length, take, drop, get_or, refl, sym, ap, subst, arith, inl, inr, length-append}
use Rattle.std.specs.List.{AllByRecursion}
use Rattle.std.proofs.lemmas.Bool.{cases_Bool, eq-eqb, eqb-true}
use Rattle.namespace_id.specs.Names.{is_at_most}
use Rattle.share_split.specs.Blobs.{NamedBytes, blob_shares_of}
use Rattle.square_layout.specs.Layout.{share_count_of, start_after, end_of}
use Rattle.square_layout.specs.Refusals.{max_shares}
use Rattle.square_layout.specs.Plans.{PlanParts, front, planned}
use Rattle.square_layout.proofs.PlanLemmas.{length-front}
use Rattle.square_layout.proofs.PlanStanding.{plan_stands}
use Rattle.tx_list.specs.Payments.{ListParts, blobs_of}
use Rattle.tx_list.specs.Reserves.{list_reserve, list_bound}
use Rattle.tx_list.specs.Places.{Numbered, numbered_from, put_numbered, order_numbered, places_from, place_of, ordered}
use Rattle.tx_list.specs.Lists.{list_places, plan_of_list}
use Rattle.tx_list.specs.Ranges.{IsStart}
use Rattle.tx_list.specs.Steps.{unnumbered}
use Rattle.tx_list.proofs.PlaceLemmas.{numbered_in_order, get_or-places_of}
use Rattle.tx_list.proofs.ListLemmas.{list_has_room}

-- ---- a number in order

-- a number stands with this blob, and no later
record Found (i : ℕ) (blob : NamedBytes) (all : List Numbered) : Type 0 where
  before : List Numbered
  behind : List Numbered
  is : all ≡ before ++ record { number = i; blob = blob } ∷ behind
  none : AllByRecursion (λ one. (one.number == i) ≡ false) behind

-- one more in front
found-cons : (i : ℕ) (blob : NamedBytes) (one : Numbered) (all : List Numbered) → Found i blob all → Found i blob (one ∷ all)
found-cons i blob one all f = record {
  before = one ∷ f.before;
  behind = f.behind;
  is = ap (λ (l : List Numbered). one ∷ l) f.is;
  none = f.none;
}

-- itself in front
found-here : (i : ℕ) (blob : NamedBytes) (all : List Numbered) → AllByRecursion (λ one. (one.number == i) ≡ false) all
    → Found i blob (record { number = i; blob = blob } ∷ all)
found-here i blob all none = record { before = []; behind = all; is = refl; none = none }

-- put among others that don't have its number
found-put : (i : ℕ) (blob : NamedBytes) (all : List Numbered) → AllByRecursion (λ one. (one.number == i) ≡ false) all
    → Found i blob (put_numbered (record { number = i; blob = blob }) all)
unfolding put_numbered
found-put i blob [] others = found-here i blob [] tt
found-put i blob (one ∷ all) others = elim (is_at_most blob.namespace one.blob.namespace) as (λ b. Found i blob (if b then record { number = i; blob = blob } ∷ one ∷ all else one ∷ put_numbered (record { number = i; blob = blob }) all)) [
  | true ↦ found-here i blob (one ∷ all) others
  | false ↦ found-cons i blob one (put_numbered (record { number = i; blob = blob }) all) (found-put i blob all others.1)
]

-- others without this number, one put among them
put-none : (i : ℕ) (one : Numbered) (all : List Numbered) → (one.number == i) ≡ false → AllByRecursion (λ x. (x.number == i) ≡ false) all
    → AllByRecursion (λ x. (x.number == i) ≡ false) (put_numbered one all)
unfolding put_numbered
put-none i one [] h all = (h, tt)
put-none i one (other ∷ others) h all = elim (is_at_most one.blob.namespace other.blob.namespace) as (λ b. AllByRecursion (λ x. (x.number == i) ≡ false) (if b then one ∷ other ∷ others else other ∷ put_numbered one others)) [
  | true ↦ (h, all)
  | false ↦ (all.0, put-none i one others h all.1)
]

-- another one put among those with it
put-behind : (i : ℕ) (blob : NamedBytes) (other : Numbered) (before behind : List Numbered) → (other.number == i) ≡ false
    → AllByRecursion (λ one. (one.number == i) ≡ false) behind
    → Found i blob (put_numbered other (before ++ record { number = i; blob = blob } ∷ behind))
unfolding put_numbered
put-behind i blob other [] behind differs none = elim (is_at_most other.blob.namespace blob.namespace) as (λ b. Found i blob (if b then other ∷ record { number = i; blob = blob } ∷ behind else record { number = i; blob = blob } ∷ put_numbered other behind)) [
  | true ↦ found-cons i blob other (record { number = i; blob = blob } ∷ behind) (found-here i blob behind none)
  | false ↦ found-here i blob (put_numbered other behind) (put-none i other behind differs none)
]
put-behind i blob other (one ∷ before) behind differs none =
    let rest : List Numbered = before ++ record { number = i; blob = blob } ∷ behind in
    let there : Found i blob rest = record { before = before; behind = behind; is = refl; none = none } in
    elim (is_at_most other.blob.namespace one.blob.namespace) as (λ b. Found i blob (if b then other ∷ one ∷ rest else one ∷ put_numbered other rest)) [
      | true ↦ found-cons i blob other (one ∷ rest) (found-cons i blob one rest there)
      | false ↦ found-cons i blob one (put_numbered other rest) (put-behind i blob other before behind differs none)
    ]

found-put_other : (i : ℕ) (blob : NamedBytes) (other : Numbered) (all : List Numbered) → (other.number == i) ≡ false → Found i blob all
    → Found i blob (put_numbered other all)
found-put_other i blob other all differs f =
    subst (λ (l : List Numbered). Found i blob (put_numbered other l)) (sym f.is) (put-behind i blob other f.before f.behind differs f.none)

-- numbers that differ
differ_below : (n i : ℕ) → i < n → (n == i) ≡ false
differ_below n i h = elim (cases_Bool (n == i)) [
  | inl same ↦ (let e : n ≡ i = eqb-true n i same in absurd (omega (arith, e, h)))
  | inr other ↦ other
]

differ_above : (n i : ℕ) → n < i → (n == i) ≡ false
differ_above n i h = elim (cases_Bool (n == i)) [
  | inl same ↦ (let e : n ≡ i = eqb-true n i same in absurd (omega (arith, e, h)))
  | inr other ↦ other
]

-- numbers from one on are none below it, in any order
order-none : (i from : ℕ) (blobs : List NamedBytes) → i < from → AllByRecursion (λ x. (x.number == i) ≡ false) (order_numbered (numbered_from from blobs))
unfolding order_numbered numbered_from
order-none i from [] h = tt
order-none i from (blob ∷ blobs) h =
    put-none i (record { number = from; blob = blob }) (order_numbered (numbered_from (suc from) blobs)) (differ_below from i h)
    (order-none i (suc from) blobs (omega (arith, h)))

-- each blob is found in order by its number
found_in_order : (from : ℕ) (some others : List NamedBytes) (blob : NamedBytes)
    → Found (from + length some) blob (order_numbered (numbered_from from (some ++ blob ∷ others)))
unfolding order_numbered numbered_from
found_in_order from [] others blob =
    subst (λ (i : ℕ). Found i blob (put_numbered (record { number = from; blob = blob }) (order_numbered (numbered_from (suc from) others)))) (omega arith)
    (found-put from blob (order_numbered (numbered_from (suc from) others)) (order-none from (suc from) others (omega arith)))
found_in_order from (first ∷ some) others blob =
    subst (λ (i : ℕ). Found i blob (put_numbered (record { number = from; blob = first }) (order_numbered (numbered_from (suc from) (some ++ blob ∷ others))))) (omega arith)
    (found-put_other (suc from + length some) blob (record { number = from; blob = first }) (order_numbered (numbered_from (suc from) (some ++ blob ∷ others)))
    (differ_above from (suc from + length some) (omega arith)) (found_in_order (suc from) some others blob))

-- ---- the place beside it

-- where none has the number, the place that was found stays
place_none : (found i end : ℕ) (all : List Numbered) → AllByRecursion (λ one. (one.number == i) ≡ false) all → place_of found i (places_from end all) ≡ found
unfolding place_of places_from
place_none found i end [] none = refl
place_none found i end (one ∷ others) none =
    let next : ℕ = start_after end one.blob + share_count_of one.blob in
    ap (λ (b : Bool). place_of (if b then start_after end one.blob else found) i (places_from next others)) none.0 ∙ place_none found i next others none.1

-- the place beside a number is where its blob starts
place_is : (found i end : ℕ) (blob : NamedBytes) (before behind : List Numbered) → AllByRecursion (λ one. (one.number == i) ≡ false) behind
    → place_of found i (places_from end (before ++ record { number = i; blob = blob } ∷ behind)) ≡ start_after (end_of end (unnumbered before)) blob
unfolding place_of places_from end_of
place_is found i end blob [] behind none =
    let next : ℕ = start_after end blob + share_count_of blob in
    ap (λ (b : Bool). place_of (if b then start_after end blob else found) i (places_from next behind)) (eq-eqb i i refl)
    ∙ place_none (start_after end blob) i next behind none
place_is found i end blob (one ∷ before) behind none =
    place_is (if one.number == i then start_after end one.blob else found) i (start_after end one.blob + share_count_of one.blob) blob before behind none

-- ---- a list

unnumbered-append : (before behind : List Numbered) → unnumbered (before ++ behind) ≡ unnumbered before ++ unnumbered behind
unnumbered-append [] behind = refl
unnumbered-append (one ∷ before) behind = ap (λ (l : List NamedBytes). one.blob ∷ l) (unnumbered-append before behind)

-- the place of each blob of a list is its start, behind those that precede it in order
pub place_is_start : (list : ListParts) (some others : List NamedBytes) (blob : NamedBytes) → blobs_of list.payments ≡ some ++ blob ∷ others
    → IsStart list (get_or (list_places list) (length some) 0) blob
place_is_start list some others blob is =
    let reserve : ℕ = list_reserve list in
    let blobs : List NamedBytes = blobs_of list.payments in
    let found : Found (length some) blob (ordered blobs) =
    subst (λ (l : List NamedBytes). Found (length some) blob (ordered l)) (sym is)
    (subst (λ (i : ℕ). Found i blob (ordered (some ++ blob ∷ others))) (omega arith) (found_in_order 0 some others blob)) in
    let count : length some < length blobs = omega (arith, ap length is, length-append some (blob ∷ others)) in
    record {
      before = unnumbered found.before;
      behind = unnumbered found.behind;
      order =
          sym (numbered_in_order blobs) ∙ ap unnumbered found.is
          ∙ unnumbered-append found.before (record { number = length some; blob = blob } ∷ found.behind);
      start =
          get_or-places_of 0 (length blobs) (length some) (places_from reserve (ordered blobs)) count
          ∙ ap (λ (i : ℕ). place_of 0 i (places_from reserve (ordered blobs))) (omega arith)
          ∙ ap (λ (l : List Numbered). place_of 0 (length some) (places_from reserve l)) found.is
          ∙ place_is 0 (length some) reserve blob found.before found.behind found.none;
    }

-- each blob of a list stands at its place
pub list_stands : (list : ListParts) (some others : List NamedBytes) (blob : NamedBytes) → list_bound list ≤ max_shares
    → blobs_of list.payments ≡ some ++ blob ∷ others
    → take (share_count_of blob) (drop (get_or (list_places list) (length some) 0) (planned (plan_of_list list)))
    ≡ blob_shares_of blob.namespace blob.signer blob.bytes
list_stands list some others blob few is =
    let plan : PlanParts = plan_of_list list in
    let at : IsStart list (get_or (list_places list) (length some) 0) blob = place_is_start list some others blob is in
    let room : length (front plan) ≤ plan.reserve = omega (arith, length-front plan, list_has_room list few) in
    ap (λ (n : ℕ). take (share_count_of blob) (drop n (planned plan))) at.start
    ∙ plan_stands plan at.before at.behind blob room at.order
