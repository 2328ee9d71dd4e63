-- What the list of a square is read as once it is spelled, for any blobs at the places that its payments state.
use Rattle.std.proofs.Common.{cond, ◌≡◌, ◌∙◌, ℕ, ◌+◌, not, Bool, List, [], ◌∷◌, ◌++◌, drop, map, filter, refl, sym, ap, ap₂, arith, append-nil}
use Rattle.std.specs.List.{AllByRecursion}
use Rattle.std.proofs.lemmas.Grind.{flat_map-append}
use Rattle.std.proofs.lemmas.List.{map-append}
use Rattle.std.proofs.lemmas.List.Elements.{filter-append}
use Rattle.namespace_id.specs.declared.shares.Share.{Share}
use Rattle.namespace_id.specs.Shares.{AreShares}
use Rattle.share_split.specs.Blobs.{NamedBytes}
use Rattle.square_layout.specs.Plans.{blobs_bound}
use Rattle.tx_list.specs.Payments.{PaymentParts, ListParts, blobs_of}
use Rattle.tx_list.specs.Spelled.{blob_spelling, payment_spelling}
use Rattle.tx_list.specs.Reads.{is_payment, stated, blob_of, payment_of, list_of}
use Rattle.tx_list.specs.Unwrapped.{wrapped_places}
use Rattle.tx_list.specs.Measures.{HaveLengths}
use Rattle.tx_list.specs.BackRefusals.{blobs_at, payment_at}
use Rattle.tx_list.proofs.MeasureLemmas.{bound-append}
use Rattle.tx_list.proofs.SpelledBlobLemmas.{IsStatable, blob_is_stated, said_blob}
use Rattle.tx_list.proofs.SpelledListLemmas.{IsStatablePayment, entries_read, statable_is_payment, statable_tx}
use Rattle.tx_list.proofs.FindLemmas.{all_found, all_statable}

-- ---- payments read again

-- a blob as it is read of its spelling, which has the version 0
abbrev pub again : NamedBytes → NamedBytes
again blob = record { namespace = record { 0 = 0 ∷ drop 1 blob.namespace.0 }; bytes = blob.bytes; signer = blob.signer }

abbrev pub payment_again : PaymentParts → PaymentParts
payment_again payment = record { tx = payment.tx; blobs = map again payment.blobs }

blobs_again : (blobs : List NamedBytes) → AllByRecursion IsStatable blobs → map (λ entry. blob_of (stated entry)) (map blob_spelling blobs) ≡ map again blobs
blobs_again [] all = refl
blobs_again (blob ∷ blobs) all =
    ap₂ (λ (b : NamedBytes) (l : List NamedBytes). b ∷ l)
    (ap blob_of (blob_is_stated blob all.0) ∙ said_blob (drop 1 blob.namespace.0) blob.bytes blob.signer) (blobs_again blobs all.1)

pub read_again : (payment : PaymentParts) → IsStatablePayment payment → payment_of (payment_spelling payment) ≡ payment_again payment
read_again payment is =
    ap₂ (λ (tx : List ℕ) (blobs : List NamedBytes). record { tx = tx; blobs = blobs }) (statable_tx payment is)
    (ap (map (λ entry. blob_of (stated entry))) (entries_read payment is) ∙ blobs_again payment.blobs is.blobs)

none_plain : (payments : List PaymentParts) → AllByRecursion IsStatablePayment payments
    → filter (λ one. not (is_payment one)) (map payment_spelling payments) ≡ []
none_plain [] all = refl
none_plain (payment ∷ payments) all =
    let others : List (List ℕ) = filter (λ one. not (is_payment one)) (map payment_spelling payments) in
    ap (λ (b : Bool). cond (not b) (payment_spelling payment ∷ others) others) (statable_is_payment payment all.0) ∙ none_plain payments all.1

all_again : (payments : List PaymentParts) → AllByRecursion IsStatablePayment payments
    → map payment_of (filter is_payment (map payment_spelling payments)) ≡ map payment_again payments
all_again [] all = refl
all_again (payment ∷ payments) all =
    let others : List (List ℕ) = filter is_payment (map payment_spelling payments) in
    ap (λ (b : Bool). map payment_of (cond b (payment_spelling payment ∷ others) others)) (statable_is_payment payment all.0)
    ∙ ap₂ (λ (p : PaymentParts) (l : List PaymentParts). p ∷ l) (read_again payment all.0) (all_again payments all.1)

-- the list of plain units and of payments in their spelling
abbrev pub joined_list : List (List ℕ) → List PaymentParts → ListParts
joined_list plain payments = record { units = (list_of plain).units; payments = (list_of plain).payments ++ map payment_again payments }

pub list_again : (plain : List (List ℕ)) (payments : List PaymentParts) → AllByRecursion IsStatablePayment payments
    → list_of (plain ++ map payment_spelling payments) ≡ joined_list plain payments
list_again plain payments all =
    let spellings : List (List ℕ) = map payment_spelling payments in
    ap₂ (λ (units : List (List ℕ)) (those : List PaymentParts). record { units = units; payments = those })
    (filter-append (λ one. not (is_payment one)) plain spellings
    ∙ ap (λ (l : List (List ℕ)). filter (λ one. not (is_payment one)) plain ++ l) (none_plain payments all)
    ∙ append-nil (filter (λ one. not (is_payment one)) plain))
    (ap (map payment_of) (filter-append is_payment plain spellings)
    ∙ map-append payment_of (filter is_payment plain) (filter is_payment spellings)
    ∙ ap (λ (l : List PaymentParts). map payment_of (filter is_payment plain) ++ l) (all_again payments all))

-- ---- their blobs

-- they take as many shares
bound_again : (blobs : List NamedBytes) → blobs_bound (map again blobs) ≡ blobs_bound blobs
unfolding blobs_bound
bound_again [] = refl
bound_again (blob ∷ blobs) = omega (arith, bound_again blobs)

pub bounds_again : (payments : List PaymentParts) → blobs_bound (blobs_of (map payment_again payments)) ≡ blobs_bound (blobs_of payments)
bounds_again [] = refl
bounds_again (payment ∷ payments) =
    bound-append (map again payment.blobs) (blobs_of (map payment_again payments))
    ∙ ap₂ (λ (a b : ℕ). a + b) (bound_again payment.blobs) (bounds_again payments)
    ∙ sym (bound-append payment.blobs (blobs_of payments))

-- the blobs of the list
pub joined_bound : (plain : List (List ℕ)) (payments : List PaymentParts)
    → blobs_bound (blobs_of (joined_list plain payments).payments) ≡ blobs_bound (blobs_of (list_of plain).payments) + blobs_bound (blobs_of payments)
joined_bound plain payments =
    let some : List PaymentParts = (list_of plain).payments in
    ap blobs_bound (flat_map-append (λ (payment : PaymentParts). payment.blobs) some (map payment_again payments))
    ∙ bound-append (blobs_of some) (blobs_of (map payment_again payments))
    ∙ ap (λ (n : ℕ). blobs_bound (blobs_of some) + n) (bounds_again payments)

-- ---- the payments of a square

pub all_statable_payments : (shares : List Share) (units : List (List ℕ)) → AreShares shares → HaveLengths units
    → AllByRecursion IsStatablePayment (map (payment_at shares) units)
all_statable_payments shares [] wholes counted = tt
all_statable_payments shares (unit ∷ units) wholes counted = (
  record {
    blobs = all_statable (blobs_at shares (wrapped_places unit)) (all_found shares (wrapped_places unit) wholes);
    fits = counted.0;
  },
  all_statable_payments shares units wholes counted.1,
)
