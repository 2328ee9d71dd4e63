-- Payments and lists in their one spelling are read back.
use Rattle.std.proofs.Common.{true, false, if◌then◌else◌, ◌≡◌, ◌∙◌, ℕ, suc, ◌^◌, ◌<◌, ◌≤◌, ◌==◌, ◌&&◌, ◌||◌, not, cond, Bool, List, [], ◌∷◌, ◌++◌, length, map, filter, codes, Option, Some, None, refl, ap, ap₂, arith}
use Rattle.std.specs.List.{AllByRecursion, flat_map, list_all}
use Rattle.std.specs.Option.{is_some, option_or, option_map_or}
use Rattle.std.specs.Str.{bytes_eq}
use Rattle.std.proofs.lemmas.Bool.Decides.{nat_tests}
use Rattle.std.proofs.lemmas.List.{append-nil, length-map}
use Rattle.share_split.specs.Blobs.{NamedBytes}
use Rattle.proto_fields.specs.Fields.{FieldParts, fields_of, last_of, all_bytes, last_bytes}
use Rattle.proto_fields.specs.Spelled.{bytes_field}
use Rattle.proto_fields.proofs.FieldLemmas.{no_fields, fields_in_a_row, last_of-append, all_bytes_in_a_row, last_bytes_count}
use Rattle.tx_list.specs.declared.refusals.ListError.{ListError}
use Rattle.tx_list.specs.declared.refusals.ListError.TheVariants.{Behind, NoBlobs}
use Rattle.tx_list.specs.Payments.{PaymentParts, ListParts}
use Rattle.tx_list.specs.Wrapped.{some_field}
use Rattle.tx_list.specs.Spelled.{blob_spelling, payment_spelling, spelled_list}
use Rattle.tx_list.specs.Reads.{are_fields, fields_in, payment_entries, is_payment, tx_in, stated, blob_of, payment_of, list_of}
use Rattle.tx_list.specs.ReadRefusals.{blobs_refusal, payment_refusal, transaction_refusal, transactions_refusal, read_refusal}
use Rattle.tx_list.specs.ReadLaws.{HasSpelling, IsSpellable, IsSpellableList}
use Rattle.tx_list.proofs.SpelledBlobLemmas.{IsStatable, statable, field_of_bytes, bytes_field_alone, some_fields, some_field_alone, blob_spelling_is_fields, blob_is_read, blob_passes}

-- ---- the fields of a payment

-- a payment for blobs that can be counted, also where their namespaces aren't ones of blobs
pub record IsStatablePayment (payment : PaymentParts) : Type 0 where
  pub blobs : AllByRecursion IsStatable payment.blobs
  pub fits : length payment.tx < 2 ^ 64

all_statable : (blobs : List NamedBytes) → AllByRecursion HasSpelling blobs → AllByRecursion IsStatable blobs
all_statable [] all = tt
all_statable (blob ∷ blobs) all = (statable blob all.0, all_statable blobs all.1)

pub statable_payment : (payment : PaymentParts) → IsSpellable payment → IsStatablePayment payment
statable_payment payment is = record { blobs = all_statable payment.blobs is.blobs; fits = is.fits }

-- those of its blobs
abbrev entry_fields : List NamedBytes → List FieldParts
entry_fields blobs = map (λ blob. field_of_bytes 2 (blob_spelling blob)) blobs

entries_alone : (blobs : List NamedBytes) → AllByRecursion IsStatable blobs
    → fields_of (flat_map (λ blob. bytes_field 2 (blob_spelling blob)) blobs) ≡ Some (entry_fields blobs)
entries_alone [] all = no_fields
entries_alone (blob ∷ blobs) all =
    fields_in_a_row (bytes_field 2 (blob_spelling blob)) (flat_map (λ blob. bytes_field 2 (blob_spelling blob)) blobs)
    (field_of_bytes 2 (blob_spelling blob) ∷ []) (entry_fields blobs) (bytes_field_alone 2 (blob_spelling blob) refl all.0.fits) (entries_alone blobs all.1)

-- that of its type id
abbrev type_fields : List FieldParts
type_fields = some_fields 3 (codes "BLOB")

type_alone : fields_of (some_field 3 (codes "BLOB")) ≡ Some type_fields
type_alone = some_field_alone 3 (codes "BLOB") refl (omega arith)

-- all of them
abbrev payment_fields : PaymentParts → List FieldParts
payment_fields payment = some_fields 1 payment.tx ++ (entry_fields payment.blobs ++ type_fields)

fields_of_payment : (payment : PaymentParts) → IsStatablePayment payment → fields_of (payment_spelling payment) ≡ Some (payment_fields payment)
fields_of_payment payment is =
    let entries : List ℕ = flat_map (λ blob. bytes_field 2 (blob_spelling blob)) payment.blobs in
    let later = fields_in_a_row entries (some_field 3 (codes "BLOB")) (entry_fields payment.blobs) type_fields (entries_alone payment.blobs is.blobs) type_alone in
    fields_in_a_row (some_field 1 payment.tx) (entries ++ some_field 3 (codes "BLOB")) (some_fields 1 payment.tx) (entry_fields payment.blobs ++ type_fields)
    (some_field_alone 1 payment.tx refl is.fits) later

payment_fields_in : (payment : PaymentParts) → IsStatablePayment payment → fields_in (payment_spelling payment) ≡ payment_fields payment
payment_fields_in payment is = ap (λ (o : Option (List FieldParts)). option_map_or (λ fields. fields) o []) (fields_of_payment payment is)

-- ---- what they state

-- the fields of blobs have the number 2 alone
entries_one : (blobs : List NamedBytes) → all_bytes 1 (entry_fields blobs) ≡ []
entries_one [] = refl
entries_one (blob ∷ blobs) = entries_one blobs

entries_two : (blobs : List NamedBytes) → all_bytes 2 (entry_fields blobs) ≡ map blob_spelling blobs
entries_two [] = refl
entries_two (blob ∷ blobs) = ap (λ (l : List (List ℕ)). blob_spelling blob ∷ l) (entries_two blobs)

-- that of the transaction has the number 1
tx_one : (tx : List ℕ) → last_bytes 1 (some_fields 1 tx) ≡ tx
unfolding last_of
tx_one [] = refl
tx_one (byte ∷ bytes) = refl

tx_two : (tx : List ℕ) → all_bytes 2 (some_fields 1 tx) ≡ []
tx_two [] = refl
tx_two (byte ∷ bytes) = refl

-- the last of one is that one, and of none the earlier one
last_one : (found value : List ℕ) → last_of found (value ∷ []) ≡ value
unfolding last_of
last_one found value = refl

last_none : (found : List ℕ) → last_of found [] ≡ found
unfolding last_of
last_none found = refl

-- its transaction
tx_stated : (payment : PaymentParts) → last_bytes 1 (payment_fields payment) ≡ payment.tx
tx_stated payment =
    let others : all_bytes 1 (entry_fields payment.blobs ++ type_fields) ≡ [] =
    all_bytes_in_a_row 1 (entry_fields payment.blobs) type_fields ∙ ap (λ (l : List (List ℕ)). l ++ []) (entries_one payment.blobs) in
    last_bytes_count 1 (some_fields 1 payment.tx) (entry_fields payment.blobs ++ type_fields)
    ∙ ap (last_of (last_bytes 1 (some_fields 1 payment.tx))) others
    ∙ last_none (last_bytes 1 (some_fields 1 payment.tx))
    ∙ tx_one payment.tx

-- its type id
type_stated : (payment : PaymentParts) → last_bytes 3 (payment_fields payment) ≡ codes "BLOB"
type_stated payment =
    let first : List ℕ = last_bytes 3 (some_fields 1 payment.tx) in
    last_bytes_count 3 (some_fields 1 payment.tx) (entry_fields payment.blobs ++ type_fields)
    ∙ ap (last_of first) (all_bytes_in_a_row 3 (entry_fields payment.blobs) type_fields)
    ∙ last_of-append first (all_bytes 3 (entry_fields payment.blobs)) (codes "BLOB" ∷ [])
    ∙ last_one (last_of first (all_bytes 3 (entry_fields payment.blobs))) (codes "BLOB")

-- its blobs
blobs_stated : (payment : PaymentParts) → all_bytes 2 (payment_fields payment) ≡ map blob_spelling payment.blobs
blobs_stated payment =
    all_bytes_in_a_row 2 (some_fields 1 payment.tx) (entry_fields payment.blobs ++ type_fields)
    ∙ ap₂ (λ (a b : List (List ℕ)). a ++ b) (tx_two payment.tx) (all_bytes_in_a_row 2 (entry_fields payment.blobs) type_fields)
    ∙ append-nil (all_bytes 2 (entry_fields payment.blobs))
    ∙ entries_two payment.blobs

-- ---- the payment

-- the blobs that it carries
pub entries_read : (payment : PaymentParts) → IsStatablePayment payment → payment_entries (payment_spelling payment) ≡ map blob_spelling payment.blobs
entries_read payment is = ap (all_bytes 2) (payment_fields_in payment is) ∙ blobs_stated payment

-- each is fields
blobs_are_fields : (blobs : List NamedBytes) → AllByRecursion IsStatable blobs → list_all are_fields (map blob_spelling blobs) ≡ true
blobs_are_fields [] all = refl
blobs_are_fields (blob ∷ blobs) all =
    ap (λ (b : Bool). b && list_all are_fields (map blob_spelling blobs)) (blob_spelling_is_fields blob all.0) ∙ blobs_are_fields blobs all.1

three_hold : (a b c : Bool) → a ≡ true → b ≡ true → c ≡ true → (a && b && c) ≡ true
three_hold a b c first second third = rw (first, second, third) refl

-- it is a payment
pub statable_is_payment : (payment : PaymentParts) → IsStatablePayment payment → is_payment (payment_spelling payment) ≡ true
statable_is_payment payment is =
    let bytes : List ℕ = payment_spelling payment in
    three_hold (are_fields bytes) (bytes_eq (last_bytes 3 (fields_in bytes)) (codes "BLOB")) (list_all are_fields (payment_entries bytes))
    (ap is_some (fields_of_payment payment is))
    (ap (λ (fields : List FieldParts). bytes_eq (last_bytes 3 fields) (codes "BLOB")) (payment_fields_in payment is)
    ∙ ap (λ (id : List ℕ). bytes_eq id (codes "BLOB")) (type_stated payment))
    (ap (list_all are_fields) (entries_read payment is) ∙ blobs_are_fields payment.blobs is.blobs)

pub spelling_is_payment : (payment : PaymentParts) → IsSpellable payment → is_payment (payment_spelling payment) ≡ true
spelling_is_payment payment is = statable_is_payment payment (statable_payment payment is)

-- its transaction is read back, and its blobs as they are stated
pub statable_tx : (payment : PaymentParts) → IsStatablePayment payment → tx_in (payment_spelling payment) ≡ payment.tx
statable_tx payment is = ap (last_bytes 1) (payment_fields_in payment is) ∙ tx_stated payment

-- its blobs are read back
blobs_read : (blobs : List NamedBytes) → AllByRecursion HasSpelling blobs → map (λ entry. blob_of (stated entry)) (map blob_spelling blobs) ≡ blobs
blobs_read [] all = refl
blobs_read (blob ∷ blobs) all = ap₂ (λ (b : NamedBytes) (l : List NamedBytes). b ∷ l) (blob_is_read blob all.0) (blobs_read blobs all.1)

-- and so is it
pub spelling_is_read : (payment : PaymentParts) → IsSpellable payment → payment_of (payment_spelling payment) ≡ payment
spelling_is_read payment is =
    ap₂ (λ (tx : List ℕ) (blobs : List NamedBytes). record { tx = tx; blobs = blobs })
    (statable_tx payment (statable_payment payment is))
    (ap (map (λ entry. blob_of (stated entry))) (entries_read payment (statable_payment payment is)) ∙ blobs_read payment.blobs is.blobs)

-- ---- its checks

blobs_pass : (i j : ℕ) (blobs : List NamedBytes) → AllByRecursion HasSpelling blobs → blobs_refusal i j (map blob_spelling blobs) ≡ None
unfolding blobs_refusal
blobs_pass i j [] all = refl
blobs_pass i j (blob ∷ blobs) all =
    ap (λ (o : Option ListError). option_or o (blobs_refusal i (suc j) (map blob_spelling blobs))) (blob_passes i j blob all.0)
    ∙ blobs_pass i (suc j) blobs all.1

some_is : (n : ℕ) → 1 ≤ n → (n == 0) ≡ false
some_is n h = grind (arith, nat_tests)

entries_pass : (i : ℕ) (payment : PaymentParts) → IsSpellable payment → payment_refusal i (map blob_spelling payment.blobs) ≡ None
entries_pass i payment is =
    let some : (length (map blob_spelling payment.blobs) == 0) ≡ false =
    some_is (length (map blob_spelling payment.blobs)) (omega (arith, length-map payment.blobs blob_spelling, is.some)) in
    ap (λ (b : Bool). cond b (Some (NoBlobs i)) (blobs_refusal i 0 (map blob_spelling payment.blobs))) some ∙ blobs_pass i 0 payment.blobs is.blobs

-- what refuses a transaction that is a payment, or isn't
abbrev transaction_by : ℕ → Bool → Bool → List ℕ → Option ListError
transaction_by i paid is bytes = if is then payment_refusal i (payment_entries bytes) else (if paid then Some (Behind i) else None)

-- no check of it fails, whatever came before
payment_passes : (i : ℕ) (paid : Bool) (payment : PaymentParts) → IsSpellable payment → transaction_refusal i paid (payment_spelling payment) ≡ None
payment_passes i paid payment is =
    ap (λ (b : Bool). transaction_by i paid b (payment_spelling payment)) (spelling_is_payment payment is)
    ∙ ap (payment_refusal i) (entries_read payment (statable_payment payment is))
    ∙ entries_pass i payment is

-- ---- the list

payments_pass : (i : ℕ) (paid : Bool) (payments : List PaymentParts) → AllByRecursion IsSpellable payments
    → transactions_refusal i paid (map payment_spelling payments) ≡ None
unfolding transactions_refusal
payments_pass i paid [] all = refl
payments_pass i paid (payment ∷ payments) all =
    let next : Bool = paid || is_payment (payment_spelling payment) in
    ap (λ (o : Option ListError). option_or o (transactions_refusal (suc i) next (map payment_spelling payments))) (payment_passes i paid payment all.0)
    ∙ payments_pass (suc i) next payments all.1

units_pass : (i : ℕ) (units : List (List ℕ)) (payments : List PaymentParts) → AllByRecursion (λ unit. is_payment unit ≡ false) units
    → AllByRecursion IsSpellable payments → transactions_refusal i false (units ++ map payment_spelling payments) ≡ None
unfolding transactions_refusal
units_pass i [] payments plain all = payments_pass i false payments all
units_pass i (unit ∷ units) payments plain all =
    ap (λ (b : Bool). option_or (transaction_by i false b unit) (transactions_refusal (suc i) (false || b) (units ++ map payment_spelling payments))) plain.0
    ∙ units_pass (suc i) units payments plain.1 all

-- no check refuses it
pub spelled_is_taken : (list : ListParts) → IsSpellableList list → read_refusal (spelled_list list) ≡ None
spelled_is_taken list is = units_pass 0 list.units list.payments is.plain is.payments

-- its units are the plain transactions, and its payments the others
none_plain : (payments : List PaymentParts) → AllByRecursion IsSpellable payments → filter (λ one. not (is_payment one)) (map payment_spelling payments) ≡ []
none_plain [] all = refl
none_plain (payment ∷ payments) all =
    let others : List (List ℕ) = filter (λ one. not (is_payment one)) (map payment_spelling payments) in
    ap (λ (b : Bool). cond (not b) (payment_spelling payment ∷ others) others) (spelling_is_payment payment all.0) ∙ none_plain payments all.1

units_read : (units : List (List ℕ)) (payments : List PaymentParts) → AllByRecursion (λ unit. is_payment unit ≡ false) units
    → AllByRecursion IsSpellable payments → filter (λ one. not (is_payment one)) (units ++ map payment_spelling payments) ≡ units
units_read [] payments plain all = none_plain payments all
units_read (unit ∷ units) payments plain all =
    let others : List (List ℕ) = filter (λ one. not (is_payment one)) (units ++ map payment_spelling payments) in
    ap (λ (b : Bool). cond (not b) (unit ∷ others) others) plain.0 ∙ ap (λ (l : List (List ℕ)). unit ∷ l) (units_read units payments plain.1 all)

all_payments : (payments : List PaymentParts) → AllByRecursion IsSpellable payments
    → map payment_of (filter is_payment (map payment_spelling payments)) ≡ payments
all_payments [] all = refl
all_payments (payment ∷ payments) all =
    let others : List (List ℕ) = filter is_payment (map payment_spelling payments) in
    ap (λ (b : Bool). map payment_of (cond b (payment_spelling payment ∷ others) others)) (spelling_is_payment payment all.0)
    ∙ ap₂ (λ (p : PaymentParts) (l : List PaymentParts). p ∷ l) (spelling_is_read payment all.0) (all_payments payments all.1)

payments_read : (units : List (List ℕ)) (payments : List PaymentParts) → AllByRecursion (λ unit. is_payment unit ≡ false) units
    → AllByRecursion IsSpellable payments → map payment_of (filter is_payment (units ++ map payment_spelling payments)) ≡ payments
payments_read [] payments plain all = all_payments payments all
payments_read (unit ∷ units) payments plain all =
    let others : List (List ℕ) = filter is_payment (units ++ map payment_spelling payments) in
    ap (λ (b : Bool). map payment_of (cond b (unit ∷ others) others)) plain.0 ∙ payments_read units payments plain.1 all

-- it is read back
pub spelled_is_read : (list : ListParts) → IsSpellableList list → list_of (spelled_list list) ≡ list
spelled_is_read list is =
    ap₂ (λ (units : List (List ℕ)) (payments : List PaymentParts). record { units = units; payments = payments })
    (units_read list.units list.payments is.plain is.payments) (payments_read list.units list.payments is.plain is.payments)
