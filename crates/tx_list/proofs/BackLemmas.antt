-- The square of a list is read as this list.
use Rattle.std.proofs.Common.{true, false, cond, ◌≡◌, ◌∙◌, ℕ, zero, suc, ◌+◌, ◌^◌, ◌<◌, ◌≤◌, ◌-◌, ◌==◌, min, Bool, List, [], ◌∷◌, ◌++◌, length, take, drop, map, get_or, Option, Some, None, Result, Ok, refl, sym, ap, ap₂, subst, arith, inl, inr, if◌then◌else◌, length-append, length-take, length-drop, append_assoc, append-nil, drop-cons}
use Rattle.std.specs.List.{AllByRecursion, slice_get}
use Rattle.std.specs.Option.{is_some, option_map_or, option_or}
use Rattle.std.proofs.lemmas.Bool.{cases_lt}
use Rattle.std.proofs.lemmas.Bool.Decides.{nat_tests}
use Rattle.std.proofs.lemmas.List.{drop_all, take-append-le, drop-append-le, get_or-drop}
use Rattle.std.proofs.lemmas.Option.{slice_get-get_or}
use Rattle.namespace_id.specs.declared.namespaces.Namespace.{Namespace}
use Rattle.namespace_id.specs.declared.shares.Share.{Share}
use Rattle.namespace_id.specs.Names.{IsNamespace, transaction, pay_for_blob}
use Rattle.proto_fields.specs.Varints.{varint}
use Rattle.share_split.specs.declared.joining.JoinError.{JoinError}
use Rattle.share_split.specs.Blobs.{NamedBytes, IsNamed, max_sequence_length, version_of, share_count, first_blob_content, later_shares, blob_shares_of}
use Rattle.share_split.specs.Units.{unit_text, units_text, unit_shares_of, unit_share_count}
use Rattle.share_split.specs.Joined.{IsBlob}
use Rattle.share_split.specs.Joined.Piece.{blob}
use Rattle.share_split.specs.Walks.{is_signed, share_fields, blobs_from, blobs_joined, units_in, units_of}
use Rattle.share_split.proofs.Reading.Fields.{opening, opening_is_first}
use Rattle.share_split.proofs.Reading.Signers.{blob_label}
use Rattle.share_split.proofs.Reading.BlobRead.{pieces_read}
use Rattle.share_split.proofs.Reading.UnitWalk.{sequence_from-none}
use Rattle.share_split.proofs.Reading.UnitRead.{compact_read}
use Rattle.share_split.proofs.Writing.BlobLaws.{length-blob_shares_of, few_shares_hold_a_sequence}
use Rattle.share_split.proofs.Writing.UnitLaws.{long_texts_take_many_shares}
use Rattle.square_layout.specs.Layout.{share_count_of}
use Rattle.square_layout.specs.Plans.{blobs_bound, planned}
use Rattle.square_layout.specs.Refusals.{max_shares}
use Rattle.square_layout.proofs.SquareLemmas.{low_is_namespace}
use Rattle.tx_list.specs.declared.refusals.BackError.{BackError}
use Rattle.tx_list.specs.declared.refusals.BackError.TheVariants.{Units, Payments, Wrapper, Index}
use Rattle.tx_list.specs.Payments.{PaymentParts, ListParts, blobs_of, IsPayment}
use Rattle.tx_list.specs.Wrapped.{wrapped, wrap_all}
use Rattle.tx_list.specs.Unwrapped.{wrapped_places}
use Rattle.tx_list.specs.Reserves.{list_reserve, list_bound}
use Rattle.tx_list.specs.Places.{places_from, ordered}
use Rattle.tx_list.specs.Lists.{list_places, written_list, plan_of_list, square_of_list}
use Rattle.tx_list.specs.BackRefusals.{first_front, second_front, front_refusal, front_units, stated_count, sequence_at, one_blob, blob_at, blobs_at, places_refusal, payment_at, wrapper_refusal, wrappers_refusal, back_list, part_refusal}
use Rattle.tx_list.proofs.PlaceLemmas.{length-places_of}
use Rattle.tx_list.proofs.ListLemmas.{payments_some, payments_named, list_is_low, list_has_room}
use Rattle.tx_list.proofs.StandingLemmas.{list_stands}
use Rattle.tx_list.proofs.UnwrapLemmas.{wrapped_tx_is, wrapped_places_are, wrapped_is_wrapper}
use Rattle.tx_list.proofs.RunLemmas.{first_front_is, second_front_is}

-- ---- a blob at its place

-- what is taken begins as the list does
first_of : (n : ℕ) (xs : List Share) (x : Share) (ys : List Share) → take n xs ≡ x ∷ ys → (rest : List Share) × (xs ≡ x ∷ rest)
first_of zero xs x ys e = absurd (omega (arith, ap length e))
first_of (suc n) [] x ys e = absurd (omega (arith, ap length e))
first_of (suc n) (z ∷ zs) x ys e = let same : z ≡ x = cc in (zs, ap (λ (s : Share). s ∷ zs) same)

-- a share that stands at a place is got there
pub get_at : (xs : List Share) (i : ℕ) (x : Share) (rest : List Share) → drop i xs ≡ x ∷ rest → slice_get xs i ≡ Some x
get_at xs i x rest e =
    let lt : i < length xs = omega (arith, ap length e, length-drop i xs) in
    let place : i ≡ i + 0 = omega arith in
    slice_get-get_or xs i x lt
    ∙ ap Some (ap (λ (n : ℕ). get_or xs n x) place ∙ sym (get_or-drop i xs 0 x) ∙ ap (λ (l : List Share). get_or l 0 x) e)

-- a share is signed where it has a signer
signed_by : (b : Bool) (signer : List ℕ) → b ≡ is_some (if b then Some signer else None)
signed_by true signer = refl
signed_by false signer = refl

some_bytes : (n : ℕ) → 1 ≤ n → (n == 0) ≡ false
some_bytes n h = grind (arith, nat_tests)

-- the shares of a blob are read as it
blob_read : (one : NamedBytes) → IsBlob one → blobs_joined (blob_shares_of one.namespace one.signer one.bytes) ≡ Ok (one ∷ [])
blob_read one is =
    ap (blobs_from 0 None) (sym (append-nil (blob_shares_of one.namespace one.signer one.bytes))) ∙ pieces_read 0 (blob one ∷ []) (is, tt)

-- a blob whose shares stand at a place is the one there
blob_found : (shares : List Share) (place : ℕ) (one : NamedBytes) → IsBlob one → 1 ≤ length one.bytes
    → take (share_count_of one) (drop place shares) ≡ blob_shares_of one.namespace one.signer one.bytes → blob_at shares place ≡ Some one
blob_found shares place one is some e =
    let signed : Bool = is_some one.signer in
    let share : Share = opening one.namespace (version_of one.signer) one.signer (length one.bytes) one.bytes in
    let later : List Share = later_shares (share_count_of one - 1) one.namespace (version_of one.signer) (drop (first_blob_content signed) one.bytes) in
    let begins = first_of (share_count_of one) (drop place shares) share later e in
    let got : slice_get shares place ≡ Some share = get_at shares place share begins.0 begins.1 in
    let label = blob_label one.signer (length one.bytes) (some_bytes (length one.bytes) some) is.signer in
    let first = opening_is_first one.namespace (version_of one.signer) one.signer (length one.bytes) one.bytes is.name.size_is (omega (arith, is.few)) label in
    let signer : is_signed share ≡ signed = signed_by (is_signed share) (take 20 (share_fields share)) ∙ ap is_some first.signer_is in
    let count : stated_count share ≡ share_count_of one = ap₂ share_count first.size_is signer in
    let sequence : sequence_at shares place ≡ blob_shares_of one.namespace one.signer one.bytes =
    ap (λ (o : Option Share). option_map_or (λ s. take (stated_count s) (drop place shares)) o []) got
    ∙ ap (λ (n : ℕ). take n (drop place shares)) count ∙ e in
    ap (λ (l : List Share). one_blob (blobs_joined l)) sequence ∙ ap one_blob (blob_read one is)

-- ---- blobs at their places

-- at each place stands its blob
abbrev pub AreAt : List Share → List ℕ → List NamedBytes → Type 0
AreAt shares [] [] = Unit {0}
AreAt shares [] (one ∷ blobs) = ⊥
AreAt shares (place ∷ places) [] = ⊥
AreAt shares (place ∷ places) (one ∷ blobs) = (blob_at shares place ≡ Some one) × AreAt shares places blobs

-- as many
at_count : (shares : List Share) (places : List ℕ) (blobs : List NamedBytes) → AreAt shares places blobs → length places ≡ length blobs
at_count shares [] [] at = refl
at_count shares [] (one ∷ blobs) at = absurd at
at_count shares (place ∷ places) [] at = absurd at
at_count shares (place ∷ places) (one ∷ blobs) at = ap suc (at_count shares places blobs at.1)

-- the first of them, and the others
at_parts : (shares : List Share) (places : List ℕ) (own others : List NamedBytes) → AreAt shares places (own ++ others)
    → AreAt shares (take (length own) places) own × AreAt shares (drop (length own) places) others
at_parts shares places [] others at = (tt, at)
at_parts shares [] (one ∷ own) others at = absurd at
at_parts shares (place ∷ places) (one ∷ own) others at =
    let r = at_parts shares places own others at.1 in ((at.0, r.0), r.1)

-- they are read there
blobs_are : (shares : List Share) (places : List ℕ) (blobs : List NamedBytes) → AreAt shares places blobs → blobs_at shares places ≡ blobs
blobs_are shares [] [] at = refl
blobs_are shares [] (one ∷ blobs) at = absurd at
blobs_are shares (place ∷ places) [] at = absurd at
blobs_are shares (place ∷ places) (one ∷ blobs) at =
    ap (λ (o : Option NamedBytes). option_map_or (λ b. b ∷ []) o [] ++ blobs_at shares places) at.0
    ∙ ap (λ (l : List NamedBytes). one ∷ l) (blobs_are shares places blobs at.1)

places_pass : (i j : ℕ) (shares : List Share) (places : List ℕ) (blobs : List NamedBytes) → AreAt shares places blobs → places_refusal i j shares places ≡ None
unfolding places_refusal
places_pass i j shares [] blobs at = refl
places_pass i j shares (place ∷ places) [] at = absurd at
places_pass i j shares (place ∷ places) (one ∷ blobs) at =
    ap (λ (o : Option NamedBytes). cond (is_some o) (places_refusal i (suc j) shares places) (Some (Index i j))) at.0
    ∙ places_pass i (suc j) shares places blobs at.1

-- ---- payments

pub small-take : (n most : ℕ) (places : List ℕ) → AllByRecursion (λ place. place < most) places → AllByRecursion (λ place. place < most) (take n places)
small-take zero most places all = tt
small-take (suc n) most [] all = tt
small-take (suc n) most (place ∷ places) all = (all.0, small-take n most places all.1)

pub small-drop : (n most : ℕ) (places : List ℕ) → AllByRecursion (λ place. place < most) places → AllByRecursion (λ place. place < most) (drop n places)
small-drop zero most places all = all
small-drop (suc n) most [] all = tt
small-drop (suc n) most (place ∷ places) all = small-drop n most places all.1

-- a unit is no longer than its text
pub unit_within : (unit : List ℕ) → length unit ≤ length (unit_text unit)
unit_within unit = omega (arith, length-append (varint (length unit)) unit)

-- units whose shares are few have a text that a sequence holds
pub text_few : (units : List (List ℕ)) → unit_share_count units ≤ max_shares → length (units_text units) ≤ max_sequence_length
text_few units few = elim (cases_lt max_sequence_length (length (units_text units))) [
  | inl long ↦ absurd (omega (arith, few, long_texts_take_many_shares units long))
  | inr short ↦ short
]

-- wrapped payments are read as these, and none is refused
record AreBack (i : ℕ) (shares : List Share) (payments : List PaymentParts) (units : List (List ℕ)) : Type 0 where
  are : map (payment_at shares) units ≡ payments
  pass : wrappers_refusal i shares units ≡ None

payments_back : (i : ℕ) (shares : List Share) (payments : List PaymentParts) (places : List ℕ) → AreAt shares places (blobs_of payments)
    → AllByRecursion IsPayment payments → AllByRecursion (λ place. place < 2 ^ 32) places
    → length (units_text (wrap_all payments places)) ≤ max_sequence_length → AreBack i shares payments (wrap_all payments places)
unfolding wrap_all wrappers_refusal
payments_back i shares [] places at all small few = record { are = refl; pass = refl }
payments_back i shares (payment ∷ payments) places at all small few =
    let count : ℕ = length payment.blobs in
    let own : List ℕ = take count places in
    let others : List ℕ = drop count places in
    let two = at_parts shares places payment.blobs (blobs_of payments) at in
    let unit : List ℕ = wrapped payment.tx own in
    let units : List (List ℕ) = wrap_all payments others in
    let size : length (units_text (unit ∷ units)) ≡ length (unit_text unit) + length (units_text units) = length-append (unit_text unit) (units_text units) in
    let fits : length unit < 2 ^ 64 = omega (arith, size, few, unit_within unit) in
    let some : 1 ≤ length own = omega (arith, at_count shares own payment.blobs two.0, all.0.some) in
    let few_places : AllByRecursion (λ place. place < 2 ^ 32) own = small-take count (2 ^ 32) places small in
    let read : wrapped_places unit ≡ own = wrapped_places_are payment.tx own fits few_places in
    let one : payment_at shares unit ≡ payment =
    ap₂ (λ (tx : List ℕ) (blobs : List NamedBytes). record { tx = tx; blobs = blobs }) (wrapped_tx_is payment.tx own fits)
    (ap (blobs_at shares) read ∙ blobs_are shares own payment.blobs two.0) in
    let passes : wrapper_refusal i shares unit ≡ None =
    ap (λ (b : Bool). cond b (places_refusal i 0 shares (wrapped_places unit)) (Some (Wrapper i))) (wrapped_is_wrapper payment.tx own fits some few_places)
    ∙ ap (places_refusal i 0 shares) read ∙ places_pass i 0 shares own payment.blobs two.0 in
    let rest = payments_back (suc i) shares payments others two.1 all.1 (small-drop count (2 ^ 32) places small) (omega (arith, size, few)) in
    record {
      are = ap₂ (λ (p : PaymentParts) (l : List PaymentParts). p ∷ l) one rest.are;
      pass = ap (λ (o : Option BackError). option_or o (wrappers_refusal (suc i) shares units)) passes ∙ rest.pass;
    }

-- ---- a list

-- a list of bytes whose square holds it
pub record IsLaidList (list : ListParts) : Type 0 where
  pub few : list_bound list ≤ max_shares
  pub payments : AllByRecursion IsPayment list.payments
  pub named : AllByRecursion IsNamed (blobs_of list.payments)

-- its blobs are blobs
pub blobs_held : (blobs : List NamedBytes) → AllByRecursion IsNamed blobs → AllByRecursion (λ one. 1 ≤ length one.bytes) blobs → blobs_bound blobs ≤ max_shares
    → AllByRecursion IsBlob blobs
unfolding blobs_bound
blobs_held [] named some few = tt
blobs_held (one ∷ blobs) named some few =
    let held : share_count_of one ≤ max_shares = omega (arith, few) in (
      record {
        name = named.0.name;
        some = λ none. (let zero : length one.bytes ≡ 0 = ap (λ (l : List ℕ). length l) none in absurd (omega (arith, some.0, zero)));
        few = few_shares_hold_a_sequence (length one.bytes) (is_some one.signer) held;
        fits = named.0.fits;
        signer = named.0.signer;
      },
      blobs_held blobs named.1 some.1 (omega (arith, few)),
    )

-- shares behind don't change what stands at a place
pub stands_on : (count place : ℕ) (shares more own : List Share) → 1 ≤ count → count ≡ length own → take count (drop place shares) ≡ own
    → take count (drop place (shares ++ more)) ≡ own
stands_on count place shares more own some is e =
    let all : min count (length (drop place shares)) ≡ count = sym (length-take count (drop place shares)) ∙ ap length e ∙ sym is in
    let within : place ≤ length shares = omega (arith, all, length-drop place shares, some) in
    ap (take count) (drop-append-le place shares more within)
    ∙ take-append-le count (drop place shares) more (omega (arith, all)) ∙ e

count_some : (one : NamedBytes) → 1 ≤ length (blob_shares_of one.namespace one.signer one.bytes)
count_some one = omega arith

-- each of its blobs stands at its place
at_from : (list : ListParts) (some others : List NamedBytes) → list_bound list ≤ max_shares → blobs_of list.payments ≡ some ++ others
    → AllByRecursion IsBlob others → AllByRecursion (λ one. 1 ≤ length one.bytes) others
    → AreAt (square_of_list list).shares (drop (length some) (list_places list)) others
at_from list some [] few is all have =
    let places : List ℕ = list_places list in
    let size : length places ≡ length (blobs_of list.payments) = length-places_of 0 (length (blobs_of list.payments)) (places_from (list_reserve list) (ordered (blobs_of list.payments))) in
    let none : drop (length some) places ≡ [] = drop_all (length some) places (omega (arith, size, ap length is, length-append some [])) in
    subst (λ (l : List ℕ). AreAt (square_of_list list).shares l []) (sym none) tt
at_from list some (one ∷ others) few is all have =
    let places : List ℕ = list_places list in
    let shares : List Share = (square_of_list list).shares in
    let size : length places ≡ length (blobs_of list.payments) = length-places_of 0 (length (blobs_of list.payments)) (places_from (list_reserve list) (ordered (blobs_of list.payments))) in
    let lt : length some < length places = omega (arith, size, ap length is, length-append some (one ∷ others)) in
    let next : drop (length some) places ≡ get_or places (length some) 0 ∷ drop (suc (length some)) places = drop-cons places (length some) 0 lt in
    let counted : share_count_of one ≡ length (blob_shares_of one.namespace one.signer one.bytes) = sym (length-blob_shares_of one.namespace one.signer one.bytes) in
    let here : blob_at shares (get_or places (length some) 0) ≡ Some one =
    blob_found shares (get_or places (length some) 0) one all.0 have.0
    (stands_on (share_count_of one) (get_or places (length some) 0) (planned (plan_of_list list)) _ _ (omega (arith, counted, count_some one)) counted
    (list_stands list some others one few is)) in
    let longer : length (some ++ one ∷ []) ≡ suc (length some) = omega (arith, length-append some (one ∷ [])) in
    let rest : AreAt shares (drop (length (some ++ one ∷ [])) places) others =
    at_from list (some ++ one ∷ []) others few (is ∙ sym (append_assoc some (one ∷ []) others)) all.1 have.1 in
    subst (λ (l : List ℕ). AreAt shares l (one ∷ others)) (sym next) (here, subst (λ (n : ℕ). AreAt shares (drop n places) others) longer rest)

-- units whose shares are few are read back
units_back : (name : Namespace) (units : List (List ℕ)) → IsNamespace name → unit_share_count units ≤ max_shares → units_of (unit_shares_of name units) ≡ Ok units
units_back name [] named few = ap (units_in []) (sequence_from-none 0)
units_back name (unit ∷ units) named few = compact_read name (unit ∷ units) named (text_few (unit ∷ units) few)

-- so are its plain transactions
plain_back : (list : ListParts) → IsLaidList list → units_of (first_front (square_of_list list).shares) ≡ Ok list.units
plain_back list is =
    ap units_of (first_front_is (plan_of_list list) (payments_named list.payments is.payments))
    ∙ units_back transaction list.units (low_is_namespace 1 (omega arith)) (omega (arith, list_has_room list is.few, is.few))

-- and its payments, as they are written
written_back : (list : ListParts) → IsLaidList list → units_of (second_front (square_of_list list).shares) ≡ Ok (written_list list)
written_back list is =
    ap units_of (second_front_is (plan_of_list list) (payments_named list.payments is.payments))
    ∙ units_back pay_for_blob (written_list list) (low_is_namespace 4 (omega arith)) (omega (arith, list_has_room list is.few, is.few))

pub low-small : (places : List ℕ) → AllByRecursion (λ place. place < max_shares) places → AllByRecursion (λ place. place < 2 ^ 32) places
low-small [] all = tt
low-small (place ∷ places) all = (omega (arith, all.0), low-small places all.1)

all_back : (list : ListParts) → IsLaidList list → AreBack 0 (square_of_list list).shares list.payments (written_list list)
all_back list is =
    let blobs : List NamedBytes = blobs_of list.payments in
    let some = payments_some list.payments is.payments in
    let are : AllByRecursion IsBlob blobs = blobs_held blobs is.named some (omega (arith, is.few)) in
    let at : AreAt (square_of_list list).shares (list_places list) blobs = at_from list [] blobs is.few refl are some in
    payments_back 0 (square_of_list list).shares list.payments (list_places list) at is.payments (low-small (list_places list) (list_is_low list is.few))
    (text_few (written_list list) (omega (arith, list_has_room list is.few, is.few)))

-- its square is read as it
pub list_back : (list : ListParts) → IsLaidList list → back_list (square_of_list list) ≡ list
list_back list is =
    let shares : List Share = (square_of_list list).shares in
    ap₂ (λ (units : List (List ℕ)) (payments : List PaymentParts). record { units = units; payments = payments })
    (ap front_units (plain_back list is))
    (ap (λ (r : Result (List (List ℕ)) JoinError). map (payment_at shares) (front_units r)) (written_back list is) ∙ (all_back list is).are)

-- and no part of it is refused
pub parts_pass : (list : ListParts) → IsLaidList list → part_refusal (square_of_list list) ≡ None
parts_pass list is =
    let shares : List Share = (square_of_list list).shares in
    let second : Result (List (List ℕ)) JoinError = units_of (second_front shares) in
    ap (λ (r : Result (List (List ℕ)) JoinError).
    option_or (front_refusal Units r) (option_or (front_refusal Payments second) (wrappers_refusal 0 shares (front_units second)))) (plain_back list is)
    ∙ ap (λ (r : Result (List (List ℕ)) JoinError). option_or (front_refusal Payments r) (wrappers_refusal 0 shares (front_units r))) (written_back list is)
    ∙ (all_back list is).pass
