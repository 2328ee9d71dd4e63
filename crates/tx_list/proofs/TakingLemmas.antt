-- What is known of transactions that no check refuses.
use Rattle.std.proofs.Common.{◌≡◌, ◌∙◌, ℕ, suc, ◌-◌, ◌≤◌, ◌==◌, ◌&&◌, ◌||◌, not, Bool, true, false, if◌then◌else◌, List, [], ◌∷◌, length, map, filter, Option, Some, None, option_map, take, drop, refl, sym, ap, ap₂, arith, append_assoc, ◌++◌}
use Rattle.std.specs.List.{AllByRecursion, list_all}
use Rattle.std.specs.Option.{option_or, is_some}
use Rattle.std.specs.Str.{bytes_eq}
use Rattle.std.specs.Prelude.{codes}
use Rattle.std.proofs.lemmas.Bool.{eqb-true, and_parts, true≢false}
use Rattle.std.proofs.lemmas.Bool.Decides.{nat_tests}
use Rattle.std.proofs.lemmas.List.{length-map, map-append, append-nil}
use Rattle.namespace_id.proofs.RefusalLemmas.{if_none}
use Rattle.namespace_id.specs.declared.namespaces.NsError.{NsError}
use Rattle.namespace_id.specs.declared.namespaces.NsError.TheVariants.{Length, Version}
use Rattle.namespace_id.specs.Names.{namespace_refusal, is_blob_namespace}
use Rattle.namespace_id.specs.Sizes.{namespace_size}
use Rattle.share_split.specs.Blobs.{NamedBytes, signer_size}
use Rattle.square_layout.proofs.AcceptedLemmas.{is_accepted}
use Rattle.tx_list.specs.declared.refusals.ListError.{ListError}
use Rattle.tx_list.specs.declared.refusals.ListError.TheVariants.{Behind, NoBlobs, BadBlob, BadVersion, NoBytes}
use Rattle.tx_list.specs.declared.checking.Judged.{Judged}
use Rattle.tx_list.specs.declared.checking.Judged.TheVariants as judged
use Rattle.proto_fields.specs.Fields.{last_bytes}
use Rattle.tx_list.specs.Payments.{PaymentParts, ListParts, IsLayable, IsPayment}
use Rattle.tx_list.specs.Reads.{are_fields, fields_in, payment_entries, is_payment, tx_in, StatedBlob, stated, blob_of, payment_of, list_of}
use Rattle.tx_list.specs.ReadRefusals.{name_refusal, has_version, blob_refusal, blobs_refusal, payment_refusal, transaction_refusal, transactions_refusal}
use Rattle.tx_list.specs.Walks.{with_blobs, judgement, has_payment, taken_payments, IsTaken, IsTakenEntry, IsTakenPayment, AreTaken}

-- ---- checks that refuse nothing

-- of two, neither did
pub or_none : {A : Type 0} (first second : Option A) → option_or first second ≡ None → (first ≡ None) × (second ≡ None)
or_none None second h = (refl, h)
or_none (Some x) second h = absurd cc

-- a refusal that is told in other words
map_none : {A B : Type 0} (f : A → B) (o : Option A) → option_map f o ≡ None → o ≡ None
map_none f None h = refl
map_none f (Some x) h = absurd cc

-- a test that says no of what isn't
is_true : (b : Bool) → not b ≡ false → b ≡ true
is_true true h = refl
is_true false h = absurd (true≢false h)

some_of : (n : ℕ) → (n == 0) ≡ false → 1 ≤ n
some_of n h = grind (arith, nat_tests)

-- ---- a blob

-- its checks but the first
abbrev other_refusal : ℕ → ℕ → StatedBlob → Option ListError
other_refusal i j blob =
    if not (has_version blob.share_version blob.signer) then Some (BadVersion i j) else (if length blob.bytes == 0 then Some (NoBytes i j) else None)

-- none of its checks did
pub blob_taken : (i j : ℕ) (blob : StatedBlob) → blob_refusal i j blob ≡ None → IsTaken blob
blob_taken i j blob h =
    let name = or_none (option_map (λ why. BadBlob i j why) (name_refusal blob.version blob.id))
    (if not (has_version blob.share_version blob.signer) then Some (BadVersion i j) else (if length blob.bytes == 0 then Some (NoBytes i j) else None)) h in
    let version = if_none (not (has_version blob.share_version blob.signer)) (BadVersion i j) (if length blob.bytes == 0 then Some (NoBytes i j) else None) name.1 in
    let bytes = if_none (length blob.bytes == 0) (NoBytes i j) None version.1 in
    record {
      named = map_none (λ why. BadBlob i j why) (name_refusal blob.version blob.id) name.0;
      versioned = is_true (has_version blob.share_version blob.signer) version.0;
      some = some_of (length blob.bytes) bytes.0;
    }

-- of one that is taken none did
no_bytes : (n : ℕ) → 1 ≤ n → (n == 0) ≡ false
no_bytes n some = grind (arith, nat_tests)

pub taken_blob : (i j : ℕ) (blob : StatedBlob) → IsTaken blob → blob_refusal i j blob ≡ None
taken_blob i j blob taken =
    ap (λ (o : Option NsError). option_or (option_map (λ why. BadBlob i j why) o) (other_refusal i j blob)) taken.named
    ∙ ap (λ (b : Bool). if not b then Some (BadVersion i j) else (if length blob.bytes == 0 then Some (NoBytes i j) else None)) taken.versioned
    ∙ ap (λ (b : Bool). if b then Some (NoBytes i j) else None) (no_bytes (length blob.bytes) taken.some)

-- where bytes are fields, what isn't refused is taken, and what is taken isn't refused
fine_parts : (fine : Bool) (refusal : Option ListError) → (fine && not (is_some refusal)) ≡ true → (fine ≡ true) × (refusal ≡ None)
fine_parts true None h = (refl, refl)
fine_parts true (Some why) h = absurd (true≢false (sym h))
fine_parts false refusal h = absurd (true≢false (sym h))

pub fine_taken : (i j : ℕ) (blob : StatedBlob) (fine : Bool) (refusal : Option ListError) → refusal ≡ (if fine then blob_refusal i j blob else None)
    → (fine && not (is_some refusal)) ≡ true → IsTaken blob
fine_taken i j blob fine refusal says h =
    let both = fine_parts fine refusal h in
    blob_taken i j blob (sym (ap (λ (b : Bool). if b then blob_refusal i j blob else None) both.0) ∙ sym says ∙ both.1)

pub taken_fine : (i j : ℕ) (blob : StatedBlob) (fine : Bool) (refusal : Option ListError) → refusal ≡ (if fine then blob_refusal i j blob else None)
    → fine ≡ true → IsTaken blob → (fine && not (is_some refusal)) ≡ true
taken_fine i j blob fine refusal says is taken =
    let none : refusal ≡ None = says ∙ ap (λ (b : Bool). if b then blob_refusal i j blob else None) is ∙ taken_blob i j blob taken in
    ap (λ (o : Option ListError). fine && not (is_some o)) none ∙ ap (λ (b : Bool). b && true) is

-- its id has 28 bytes, and its version is 0
pub id_taken : (version : ℕ) (id : List ℕ) → name_refusal version id ≡ None
    → (length id ≡ namespace_size - 1) × (version ≡ 0) × (namespace_refusal (0 ∷ id) ≡ None)
id_taken version id h =
    let size = if_none (not (length id == namespace_size - 1)) Length (if not (version == 0) then Some Version else namespace_refusal (0 ∷ id)) h in
    let number = if_none (not (version == 0)) Version (namespace_refusal (0 ∷ id)) size.1 in
    (eqb-true (length id) (namespace_size - 1) (is_true (length id == namespace_size - 1) size.0), eqb-true version 0 (is_true (version == 0) number.0), number.1)

-- a share version other than 0 has a signer of 20 bytes
signer_by : (a b c d : Bool) → ((a && b) || (c && d)) ≡ true → a ≡ false → d ≡ true
signer_by true b c d h other = absurd (true≢false other)
signer_by false b true d h other = h
signer_by false b false d h other = absurd (true≢false (sym h))

pub signer_taken : (version : ℕ) (signer : List ℕ) → has_version version signer ≡ true → (version == 0) ≡ false → length signer ≡ signer_size
signer_taken version signer h other =
    eqb-true (length signer) signer_size (signer_by (version == 0) (length signer == 0) (version == 1) (length signer == signer_size) h other)

-- so it can be laid out
pub taken_layable : (blob : StatedBlob) → IsTaken blob → IsLayable (blob_of blob)
taken_layable blob taken =
    let id = id_taken blob.version blob.id taken.named in
    record {
      named = ap (λ (v : ℕ). is_blob_namespace (v ∷ blob.id)) id.1 ∙ is_accepted (0 ∷ blob.id) id.2;
      some = taken.some;
    }

-- ---- a payment

-- none of the checks of its blobs did
blobs_taken : (i j : ℕ) (entries : List (List ℕ)) → blobs_refusal i j entries ≡ None → AllByRecursion (λ entry. IsTaken (stated entry)) entries
unfolding blobs_refusal
blobs_taken i j [] h = tt
blobs_taken i j (entry ∷ entries) h =
    let both = or_none (blob_refusal i j (stated entry)) (blobs_refusal i (suc j) entries) h in
    (blob_taken i j (stated entry) both.0, blobs_taken i (suc j) entries both.1)

-- nor its own
transaction_is : (i : ℕ) (paid : Bool) (bytes : List ℕ) → is_payment bytes ≡ true → transaction_refusal i paid bytes ≡ payment_refusal i (payment_entries bytes)
transaction_is i paid bytes is = rw is refl

transaction_by : (i : ℕ) (paid : Bool) (bytes : List ℕ) → transaction_refusal i paid bytes ≡ None → is_payment bytes ≡ true → payment_refusal i (payment_entries bytes) ≡ None
transaction_by i paid bytes h is = sym (transaction_is i paid bytes is) ∙ h

payment_taken : (i : ℕ) (paid : Bool) (bytes : List ℕ) → transaction_refusal i paid bytes ≡ None → is_payment bytes ≡ true → IsTakenPayment bytes
payment_taken i paid bytes h is =
    let blobs = if_none (length (payment_entries bytes) == 0) (NoBlobs i) (blobs_refusal i 0 (payment_entries bytes)) (transaction_by i paid bytes h is) in
    let all = and_parts (are_fields bytes && bytes_eq (last_bytes 3 (fields_in bytes)) (codes "BLOB")) (list_all are_fields (payment_entries bytes)) is in
    record {
      fields = (and_parts (are_fields bytes) (bytes_eq (last_bytes 3 (fields_in bytes)) (codes "BLOB")) all.0).0;
      entries = all.1;
      some = some_of (length (payment_entries bytes)) blobs.0;
      blobs = blobs_taken i 0 (payment_entries bytes) blobs.1;
    }

-- what is taken isn't refused
pub payment_has : (one : Judged) → has_payment one ≡ true → one ≡ judged.Payment None
payment_has judged.Plain h = absurd (true≢false (sym h))
payment_has (judged.Payment None) h = refl
payment_has (judged.Payment (Some why)) h = absurd (true≢false (sym h))

pub payment_lacks : (one : Judged) (bytes : List ℕ) → has_payment one ≡ false → taken_payments one bytes ≡ []
payment_lacks judged.Plain bytes h = refl
payment_lacks (judged.Payment None) bytes h = absurd (true≢false h)
payment_lacks (judged.Payment (Some why)) bytes h = refl

-- so one that is judged so
judged_by : (b : Bool) (refusal : Option ListError) → (if b then judged.Payment refusal else judged.Plain) ≡ judged.Payment None → (b ≡ true) × (refusal ≡ None)
judged_by true None h = (refl, refl)
judged_by true (Some why) h = absurd cc
judged_by false refusal h = absurd cc

pub judged_taken : (i : ℕ) (bytes : List ℕ) → judgement i bytes ≡ judged.Payment None → IsTakenPayment bytes
judged_taken i bytes h =
    let both = judged_by (is_payment bytes) (payment_refusal i (payment_entries bytes)) h in
    payment_taken i false bytes (transaction_is i false bytes both.0 ∙ both.1) both.0

-- so it is one as the types keep them
layable_blobs : (entries : List (List ℕ)) → AllByRecursion (λ entry. IsTaken (stated entry)) entries
    → AllByRecursion IsLayable (map (λ entry. blob_of (stated entry)) entries)
layable_blobs [] all = tt
layable_blobs (entry ∷ entries) all = (taken_layable (stated entry) all.0, layable_blobs entries all.1)

pub taken_payment : (tx bytes : List ℕ) → IsTakenPayment bytes
    → IsPayment (record { tx = tx; blobs = map (λ entry. blob_of (stated entry)) (payment_entries bytes) })
taken_payment tx bytes taken = record {
  some = omega (arith, length-map (payment_entries bytes) (λ (entry : List ℕ). blob_of (stated entry)), taken.some);
  blobs = layable_blobs (payment_entries bytes) taken.blobs;
}

-- ---- transactions

-- none of their checks did
pub all_taken : (i : ℕ) (paid : Bool) (transactions : List (List ℕ)) → transactions_refusal i paid transactions ≡ None → AreTaken transactions
unfolding transactions_refusal
all_taken i paid [] h = tt
all_taken i paid (one ∷ others) h =
    let both = or_none (transaction_refusal i paid one) (transactions_refusal (suc i) (paid || is_payment one) others) h in
    (payment_taken i paid one both.0, all_taken (suc i) (paid || is_payment one) others both.1)

-- so their payments are ones as the types keep them
filter_step : (b : Bool) (one : List ℕ) (others : List (List ℕ)) → (b ≡ true → IsPayment (payment_of one)) → AllByRecursion IsPayment (map payment_of others)
    → AllByRecursion IsPayment (map payment_of (if b then one ∷ others else others))
filter_step true one others here rest = (here refl, rest)
filter_step false one others here rest = rest

pub payments_kept : (transactions : List (List ℕ)) → AreTaken transactions → AllByRecursion IsPayment (map payment_of (filter is_payment transactions))
payments_kept [] all = tt
payments_kept (one ∷ others) all =
    filter_step (is_payment one) one (filter is_payment others) (λ is. taken_payment (tx_in one) one (all.0 is)) (payments_kept others all.1)

-- those that are payments are taken
taken_step : (b : Bool) (one : List ℕ) (others : List (List ℕ)) → (b ≡ true → IsTakenPayment one) → AllByRecursion IsTakenPayment others
    → AllByRecursion IsTakenPayment (if b then one ∷ others else others)
taken_step true one others here rest = (here refl, rest)
taken_step false one others here rest = rest

pub payments_taken : (transactions : List (List ℕ)) → AreTaken transactions → AllByRecursion IsTakenPayment (filter is_payment transactions)
payments_taken [] all = tt
payments_taken (one ∷ others) all = taken_step (is_payment one) one (filter is_payment others) all.0 (payments_taken others all.1)

-- each is kept in its turn
taken_by : (b : Bool) (i : ℕ) (paid : Bool) (refusal : Option ListError) (one : List ℕ) (others : List (List ℕ))
    → (if b then refusal else (if paid then Some (Behind i) else None)) ≡ None
    → taken_payments (if b then judged.Payment refusal else judged.Plain) one ++ map payment_of others ≡ map payment_of (if b then one ∷ others else others)
taken_by true i paid None one others h = refl
taken_by true i paid (Some why) one others h = absurd cc
taken_by false i paid refusal one others h = refl

pub taken_next : (i : ℕ) (paid : Bool) (one : List ℕ) (left others : List (List ℕ)) (payments more : List PaymentParts) → left ≡ one ∷ others
    → transaction_refusal i paid one ≡ None → more ≡ payments ++ taken_payments (judgement i one) one
    → more ++ map payment_of (filter is_payment others) ≡ payments ++ map payment_of (filter is_payment left)
taken_next i paid one left others payments more is none kept =
    ap (λ (l : List PaymentParts). l ++ map payment_of (filter is_payment others)) kept
    ∙ append_assoc payments (taken_payments (judgement i one) one) (map payment_of (filter is_payment others))
    ∙ ap (λ (l : List PaymentParts). payments ++ l) (taken_by (is_payment one) i paid (payment_refusal i (payment_entries one)) one (filter is_payment others) none)
    ∙ sym (ap (λ (l : List (List ℕ)). payments ++ map payment_of (filter is_payment l)) is)

-- and ones as the types keep them
pub payments_layable : (paid : List (List ℕ)) → AllByRecursion IsTakenPayment paid → AllByRecursion IsPayment (map payment_of paid)
payments_layable [] all = tt
payments_layable (one ∷ others) all = (taken_payment (tx_in one) one all.0, payments_layable others all.1)

-- a list of its parts
abbrev parts_of : List (List ℕ) → List PaymentParts → ListParts
parts_of units payments = record { units = units; payments = payments }

-- the list of transactions whose payments stand behind the others
pub list_parts_are : (transactions : List (List ℕ)) (plain : ℕ) (list : ListParts) → filter (λ one. not (is_payment one)) transactions ≡ take plain transactions
    → filter is_payment transactions ≡ drop plain transactions → list.units ≡ take plain transactions → list.payments ≡ map payment_of (drop plain transactions)
    → list ≡ list_of transactions
list_parts_are transactions plain list front back units payments =
    ap₂ parts_of (units ∙ sym front) (payments ∙ ap (map payment_of) (sym back))

-- ---- the walk over a payment

-- each of its blobs is fields and is taken
entries_fine : (entries : List (List ℕ)) → list_all are_fields entries ≡ true → AllByRecursion (λ entry. IsTaken (stated entry)) entries
    → AllByRecursion IsTakenEntry entries
entries_fine [] fields all = tt
entries_fine (entry ∷ entries) fields all =
    let both = and_parts (are_fields entry) (list_all are_fields entries) fields in
    (record { fields = both.0; blob = all.0 }, entries_fine entries both.1 all.1)

pub entries_taken : (bytes : List ℕ) → IsTakenPayment bytes → AllByRecursion IsTakenEntry (payment_entries bytes)
entries_taken bytes taken = entries_fine (payment_entries bytes) taken.entries taken.blobs

-- what holds of all holds of a front and of what follows
pub all_split : (some others : List (List ℕ)) → AllByRecursion IsTakenEntry (some ++ others)
    → AllByRecursion IsTakenEntry some × AllByRecursion IsTakenEntry others
all_split [] others all = (tt, all)
all_split (entry ∷ some) others all =
    let rest = all_split some others all.1 in
    ((all.0, rest.0), rest.1)

-- more blobs, and then others
pub blobs-append : (blobs : List NamedBytes) (some others : List (List ℕ)) → with_blobs blobs (some ++ others) ≡ with_blobs (with_blobs blobs some) others
blobs-append blobs some others =
    ap (λ (l : List NamedBytes). blobs ++ l) (map-append (λ (entry : List ℕ). blob_of (stated entry)) some others)
    ∙ sym (append_assoc blobs (map (λ entry. blob_of (stated entry)) some) (map (λ entry. blob_of (stated entry)) others))

pub blobs-none : (blobs : List NamedBytes) → with_blobs blobs [] ≡ blobs
blobs-none blobs = append-nil blobs

-- a payment of its parts
abbrev payment_parts : List ℕ → List NamedBytes → PaymentParts
payment_parts tx blobs = record { tx = tx; blobs = blobs }

pub payment_parts_are : (bytes tx : List ℕ) (blobs : List NamedBytes) → tx ≡ tx_in bytes → blobs ≡ with_blobs [] (payment_entries bytes)
    → payment_parts tx blobs ≡ payment_of bytes
payment_parts_are bytes tx blobs is are = ap₂ payment_parts is are
