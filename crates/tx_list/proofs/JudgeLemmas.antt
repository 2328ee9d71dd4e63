-- The checks of a transaction in one walk over its fields.
use Rattle.std.proofs.Common.{true, false, ◌≡◌, ◌∙◌, ℕ, suc, ◌+◌, ◌≤◌, ◌==◌, ◌&&◌, ◌||◌, not, nat_lt, Bool, if◌then◌else◌, List, [], ◌∷◌, ◌++◌, length, take, drop, filter, Option, Some, None, refl, sym, ap, arith}
use Rattle.std.specs.List.{list_all}
use Rattle.std.specs.Option.{option_or}
use Rattle.std.specs.Str.{bytes_eq}
use Rattle.std.specs.Prelude.{codes}
use Rattle.std.proofs.lemmas.Bool.{and_parts, true≢false}
use Rattle.std.proofs.lemmas.Bool.Decides.{nat_tests}
use Rattle.proto_fields.specs.Fields.{own_bytes, last_bytes, last_of, field_at}
use Rattle.namespace_id.proofs.RefusalLemmas.{if_none}
use Rattle.tx_list.specs.declared.refusals.ListError.{ListError}
use Rattle.tx_list.specs.declared.refusals.ListError.TheVariants.{Behind, NoBlobs}
use Rattle.tx_list.specs.declared.checking.Checked.{Checked}
use Rattle.tx_list.specs.declared.checking.Judged.TheVariants as judged
use Rattle.tx_list.specs.Reads.{are_fields, fields_in, payment_entries, is_payment, StatedBlob, stated}
use Rattle.tx_list.specs.ReadRefusals.{blob_refusal, blobs_refusal, payment_refusal, transaction_refusal, transactions_refusal, read_refusal}
use Rattle.tx_list.specs.Walks.{with_checked, with_one_blob, with_entries, judgement, judged_fields}
use Rattle.tx_list.proofs.CheckLemmas.{transactions_none}
use Rattle.tx_list.proofs.TakingLemmas.{or_none}
use Rattle.tx_list.proofs.KeptLemmas.{IsKept, kept_stops, fields_stop, last_stops}

-- ---- more blobs

-- no more
pub with-none : (i : ℕ) (checked : Checked) → with_entries i checked [] ≡ checked
unfolding with_entries
with-none i checked = refl

-- one more
pub with-one : (i : ℕ) (checked : Checked) (entry : List ℕ) → with_entries i checked (entry ∷ []) ≡ with_one_blob i checked entry
unfolding with_entries
with-one i checked entry = refl

with-cons : (i : ℕ) (checked : Checked) (entry : List ℕ) (entries : List (List ℕ))
    → with_entries i checked (entry ∷ entries) ≡ with_entries i (with_one_blob i checked entry) entries
unfolding with_entries
with-cons i checked entry entries = refl

-- some, and then others
pub with-append : (i : ℕ) (checked : Checked) (some others : List (List ℕ))
    → with_entries i checked (some ++ others) ≡ with_entries i (with_entries i checked some) others
with-append i checked [] others = ap (λ (c : Checked). with_entries i c others) (sym (with-none i checked))
with-append i checked (entry ∷ some) others =
    with-cons i checked entry (some ++ others)
    ∙ with-append i (with_one_blob i checked entry) some others
    ∙ ap (λ (c : Checked). with_entries i c others) (sym (with-cons i checked entry some))

-- each one counts
pub with-count : (i : ℕ) (checked : Checked) (entries : List (List ℕ)) → (with_entries i checked entries).count ≡ checked.count + length entries
with-count i checked [] = ap (λ (c : Checked). c.count) (with-none i checked) ∙ omega arith
with-count i checked (entry ∷ entries) =
    let more = with-count i (with_one_blob i checked entry) entries in
    ap (λ (c : Checked). c.count) (with-cons i checked entry entries) ∙ more ∙ omega arith

-- they are fields where each one is
and_again : (a b c : Bool) → ((a && b) && c) ≡ (a && (b && c))
and_again true b c = refl
and_again false b c = refl

and_none : (a : Bool) → (a && true) ≡ a
and_none true = refl
and_none false = refl

pub with-fields : (i : ℕ) (checked : Checked) (entries : List (List ℕ))
    → (with_entries i checked entries).are_fields ≡ (checked.are_fields && list_all are_fields entries)
with-fields i checked [] = ap (λ (c : Checked). c.are_fields) (with-none i checked) ∙ sym (and_none checked.are_fields)
with-fields i checked (entry ∷ entries) =
    ap (λ (c : Checked). c.are_fields) (with-cons i checked entry entries)
    ∙ with-fields i (with_one_blob i checked entry) entries
    ∙ and_again checked.are_fields (are_fields entry) (list_all are_fields entries)

-- the first refusal counts, where all are fields
or_again : (a b c : Option ListError) → option_or (option_or a b) c ≡ option_or a (option_or b c)
or_again None b c = refl
or_again (Some why) b c = refl

or_nothing : (a : Option ListError) → option_or a None ≡ a
or_nothing None = refl
or_nothing (Some why) = refl

blobs-none : (i j : ℕ) → blobs_refusal i j [] ≡ None
unfolding blobs_refusal
blobs-none i j = refl

blobs-cons : (i j : ℕ) (entry : List ℕ) (entries : List (List ℕ))
    → blobs_refusal i j (entry ∷ entries) ≡ option_or (blob_refusal i j (stated entry)) (blobs_refusal i (suc j) entries)
unfolding blobs_refusal
blobs-cons i j entry entries = refl

refusal_of : (i : ℕ) (checked : Checked) (entry : List ℕ) → are_fields entry ≡ true
    → (with_one_blob i checked entry).refusal ≡ option_or checked.refusal (blob_refusal i checked.count (stated entry))
refusal_of i checked entry is = ap (λ (b : Bool). if b then option_or checked.refusal (blob_refusal i checked.count (stated entry)) else checked.refusal) is

pub with-refusal : (i : ℕ) (checked : Checked) (entries : List (List ℕ)) → list_all are_fields entries ≡ true
    → (with_entries i checked entries).refusal ≡ option_or checked.refusal (blobs_refusal i checked.count entries)
with-refusal i checked [] all =
    ap (λ (c : Checked). c.refusal) (with-none i checked)
    ∙ sym (or_nothing checked.refusal)
    ∙ ap (option_or checked.refusal) (sym (blobs-none i checked.count))
with-refusal i checked (entry ∷ entries) all =
    let both = and_parts (are_fields entry) (list_all are_fields entries) all in
    ap (λ (c : Checked). c.refusal) (with-cons i checked entry entries)
    ∙ with-refusal i (with_one_blob i checked entry) entries both.1
    ∙ ap (λ (why : Option ListError). option_or why (blobs_refusal i (suc checked.count) entries)) (refusal_of i checked entry both.0)
    ∙ or_again checked.refusal (blob_refusal i checked.count (stated entry)) (blobs_refusal i (suc checked.count) entries)
    ∙ ap (option_or checked.refusal) (sym (blobs-cons i checked.count entry entries))

-- ---- a transaction

-- before any blob was looked at
abbrev pub unchecked : Checked
unchecked = record { count = 0; are_fields = true; refusal = None }

-- of all blobs
checked_fields : (i : ℕ) (checked : Checked) (entries : List (List ℕ)) → checked ≡ with_entries i unchecked entries
    → checked.are_fields ≡ list_all are_fields entries
checked_fields i checked entries is = ap (λ (c : Checked). c.are_fields) is ∙ with-fields i unchecked entries

-- whether it is a payment
pub judge_test : (i : ℕ) (bytes type_id : List ℕ) (checked : Checked) (none_left : Bool) → none_left ≡ are_fields bytes
    → (are_fields bytes ≡ true → type_id ≡ last_bytes 3 (fields_in bytes)) → (are_fields bytes ≡ true → checked ≡ with_entries i unchecked (payment_entries bytes))
    → is_payment bytes ≡ (none_left && bytes_eq type_id (codes "BLOB") && checked.are_fields)
judge_test i bytes type_id checked true is typed looked =
    let fine : are_fields bytes ≡ true = sym is in
    ap (λ (b : Bool). b && bytes_eq (last_bytes 3 (fields_in bytes)) (codes "BLOB") && list_all are_fields (payment_entries bytes)) fine
    ∙ ap (λ (l : List ℕ). true && bytes_eq l (codes "BLOB") && list_all are_fields (payment_entries bytes)) (sym (typed fine))
    ∙ ap (λ (b : Bool). true && bytes_eq type_id (codes "BLOB") && b) (sym (checked_fields i checked (payment_entries bytes) (looked fine)))
judge_test i bytes type_id checked false is typed looked =
    ap (λ (b : Bool). b && bytes_eq (last_bytes 3 (fields_in bytes)) (codes "BLOB") && list_all are_fields (payment_entries bytes)) (sym is)

-- it isn't
pub judged_plain : (i : ℕ) (bytes : List ℕ) → is_payment bytes ≡ false → judged.Plain ≡ judgement i bytes
judged_plain i bytes is = sym (ap (λ (b : Bool). if b then judged.Payment (payment_refusal i (payment_entries bytes)) else judged.Plain) is)

-- it is, and is refused so
pub judged_payment : (i : ℕ) (bytes : List ℕ) (checked : Checked) (why : Option ListError) → is_payment bytes ≡ true
    → (are_fields bytes ≡ true → checked ≡ with_entries i unchecked (payment_entries bytes))
    → why ≡ (if checked.count == 0 then Some (NoBlobs i) else checked.refusal) → judged.Payment why ≡ judgement i bytes
judged_payment i bytes checked why is looked says =
    let all = and_parts (are_fields bytes && bytes_eq (last_bytes 3 (fields_in bytes)) (codes "BLOB")) (list_all are_fields (payment_entries bytes)) is in
    let fine = (and_parts (are_fields bytes) (bytes_eq (last_bytes 3 (fields_in bytes)) (codes "BLOB")) all.0).0 in
    let entries = payment_entries bytes in
    let count : checked.count ≡ length entries = omega (arith, ap (λ (c : Checked). c.count) (looked fine), with-count i unchecked entries) in
    let refusal : checked.refusal ≡ blobs_refusal i 0 entries = ap (λ (c : Checked). c.refusal) (looked fine) ∙ with-refusal i unchecked entries all.1 in
    ap judged.Payment (says
    ∙ ap (λ (n : ℕ). if n == 0 then Some (NoBlobs i) else checked.refusal) count
    ∙ ap (λ (r : Option ListError). if length entries == 0 then Some (NoBlobs i) else r) refusal)
    ∙ sym (ap (λ (b : Bool). if b then judged.Payment (payment_refusal i entries) else judged.Plain) is)

-- ---- its walk

-- the blobs that were checked, and one more with a whole refusal
abbrev with_why : Checked → Bool → Option ListError → Checked
with_why checked fine why = record { count = suc checked.count; are_fields = checked.are_fields && fine; refusal = why }

-- where no field is left the blobs that were checked are all
pub walk_checked : (i : ℕ) (bytes rest : List ℕ) (checked : Checked) → are_fields rest ≡ are_fields bytes
    → IsKept (with_entries i) (own_bytes 2) unchecked checked bytes rest → field_at rest ≡ None
    → are_fields bytes ≡ true → checked ≡ with_entries i unchecked (payment_entries bytes)
walk_checked i bytes rest checked same kept none fine =
    kept_stops (with_entries i) (with-none i) (own_bytes 2) unchecked checked bytes rest same kept none fine

-- and what was kept tells whether it is a payment
pub walk_test : (i : ℕ) (bytes rest type_id : List ℕ) (checked : Checked) → are_fields rest ≡ are_fields bytes
    → IsKept last_of (own_bytes 3) [] type_id bytes rest → IsKept (with_entries i) (own_bytes 2) unchecked checked bytes rest → field_at rest ≡ None
    → is_payment bytes ≡ ((length rest == 0) && bytes_eq type_id (codes "BLOB") && checked.are_fields)
walk_test i bytes rest type_id checked same typed kept none =
    judge_test i bytes type_id checked (length rest == 0) (fields_stop bytes rest same none)
    (λ fine. last_stops (own_bytes 3) [] type_id bytes rest same typed none fine)
    (λ fine. walk_checked i bytes rest checked same kept none fine)

-- so what the walk tells is what the transaction is
judged_where : (i : ℕ) (bytes : List ℕ) (checked : Checked) (b : Bool) → is_payment bytes ≡ b
    → (are_fields bytes ≡ true → checked ≡ with_entries i unchecked (payment_entries bytes))
    → (if b then judged.Payment (if checked.count == 0 then Some (NoBlobs i) else checked.refusal) else judged.Plain) ≡ judgement i bytes
judged_where i bytes checked true is looked = judged_payment i bytes checked (if checked.count == 0 then Some (NoBlobs i) else checked.refusal) is looked refl
judged_where i bytes checked false is looked = judged_plain i bytes is

pub walk_judged : (i : ℕ) (bytes rest type_id : List ℕ) (checked : Checked) → are_fields rest ≡ are_fields bytes
    → IsKept last_of (own_bytes 3) [] type_id bytes rest → IsKept (with_entries i) (own_bytes 2) unchecked checked bytes rest → field_at rest ≡ None
    → judged_fields i rest type_id checked ≡ judgement i bytes
walk_judged i bytes rest type_id checked same typed kept none =
    judged_where i bytes checked ((length rest == 0) && bytes_eq type_id (codes "BLOB") && checked.are_fields)
    (walk_test i bytes rest type_id checked same typed kept none) (walk_checked i bytes rest checked same kept none)

-- one blob more, where the refusal of bytes that aren't fields is none
checked_by : (b : Bool) (i : ℕ) (checked : Checked) (refusal : Option ListError)
    → option_or checked.refusal (if b then refusal else None) ≡ (if b then option_or checked.refusal refusal else checked.refusal)
checked_by true i checked refusal = refl
checked_by false i checked refusal = or_nothing checked.refusal

pub checked_is : (i : ℕ) (checked : Checked) (entry : List ℕ)
    → with_checked checked (are_fields entry) (if are_fields entry then blob_refusal i checked.count (stated entry) else None) ≡ with_one_blob i checked entry
checked_is i checked entry =
    ap (λ (why : Option ListError). with_why checked (are_fields entry) why) (checked_by (are_fields entry) i checked (blob_refusal i checked.count (stated entry)))

refusal_stated : (i j : ℕ) (entry : List ℕ) (blob : StatedBlob) (fine : Bool) → fine ≡ are_fields entry → (are_fields entry ≡ true → blob ≡ stated entry)
    → (if fine then blob_refusal i j blob else None) ≡ (if are_fields entry then blob_refusal i j (stated entry) else None)
refusal_stated i j entry blob true same is =
    ap (blob_refusal i j) (is (sym same)) ∙ ap (λ (b : Bool). if b then blob_refusal i j (stated entry) else None) same
refusal_stated i j entry blob false same is = ap (λ (b : Bool). if b then blob_refusal i j (stated entry) else None) same

pub entry_checked : (i : ℕ) (checked : Checked) (entry : List ℕ) (blob : StatedBlob) (fine : Bool) (refusal : Option ListError) → fine ≡ are_fields entry
    → (are_fields entry ≡ true → blob ≡ stated entry) → refusal ≡ (if fine then blob_refusal i checked.count blob else None)
    → with_checked checked fine refusal ≡ with_one_blob i checked entry
entry_checked i checked entry blob fine refusal same is says =
    ap (λ (why : Option ListError). with_checked checked fine why) (says ∙ refusal_stated i checked.count entry blob fine same is)
    ∙ ap (λ (b : Bool). with_checked checked b (if are_fields entry then blob_refusal i checked.count (stated entry) else None)) same
    ∙ checked_is i checked entry

-- ---- plain ones in front

or_true : (b : Bool) → (b || true) ≡ true
or_true true = refl
or_true false = refl

-- a transaction that isn't refused behind a payment is one
is_paid : (b : Bool) (refusal : Option ListError) (why : ListError) → (if b then refusal else Some why) ≡ None → b ≡ true
is_paid true refusal why h = refl
is_paid false refusal why h = absurd cc

-- the payments behind it
paid_step : (b : Bool) (one : List ℕ) (others plain paid : List (List ℕ)) → b ≡ true → plain ≡ [] → paid ≡ others
    → ((if not b then one ∷ plain else plain) ≡ []) × ((if b then one ∷ paid else paid) ≡ one ∷ others)
paid_step true one others plain paid is none all = (none, ap (λ (l : List (List ℕ)). one ∷ l) all)
paid_step false one others plain paid is none all = absurd (true≢false (sym is))

all_paid : (i : ℕ) (transactions : List (List ℕ)) → transactions_refusal i true transactions ≡ None
    → (filter (λ one. not (is_payment one)) transactions ≡ []) × (filter is_payment transactions ≡ transactions)
unfolding transactions_refusal
all_paid i [] h = (refl, refl)
all_paid i (one ∷ others) h =
    let both = or_none (transaction_refusal i true one) (transactions_refusal (suc i) true others) h in
    let rest = all_paid (suc i) others both.1 in
    paid_step (is_payment one) one others (filter (λ one. not (is_payment one)) others) (filter is_payment others)
    (is_paid (is_payment one) (payment_refusal i (payment_entries one)) (Behind i) both.0) rest.0 rest.1

-- one in front of others
front_step : (b : Bool) (one : List ℕ) (others plain paid : List (List ℕ)) → (b ≡ true → (plain ≡ []) × (paid ≡ others))
    → plain ≡ take (length plain) others → paid ≡ drop (length plain) others
    → ((if not b then one ∷ plain else plain) ≡ take (length (if not b then one ∷ plain else plain)) (one ∷ others))
    × ((if b then one ∷ paid else paid) ≡ drop (length (if not b then one ∷ plain else plain)) (one ∷ others))
front_step true one others plain paid behind front back =
    let h = behind refl in (
      h.0 ∙ sym (ap (λ (l : List (List ℕ)). take (length l) (one ∷ others)) h.0),
      ap (λ (l : List (List ℕ)). one ∷ l) h.1 ∙ sym (ap (λ (l : List (List ℕ)). drop (length l) (one ∷ others)) h.0),
    )
front_step false one others plain paid behind front back = (ap (λ (l : List (List ℕ)). one ∷ l) front, back)

-- where no check refuses the plain ones come first
pub plain_first : (i : ℕ) (paid : Bool) (transactions : List (List ℕ)) → transactions_refusal i paid transactions ≡ None
    → (filter (λ one. not (is_payment one)) transactions ≡ take (length (filter (λ one. not (is_payment one)) transactions)) transactions)
    × (filter is_payment transactions ≡ drop (length (filter (λ one. not (is_payment one)) transactions)) transactions)
unfolding transactions_refusal
plain_first i paid [] h = (refl, refl)
plain_first i paid (one ∷ others) h =
    let both = or_none (transaction_refusal i paid one) (transactions_refusal (suc i) (paid || is_payment one) others) h in
    let rest = plain_first (suc i) (paid || is_payment one) others both.1 in
    front_step (is_payment one) one others (filter (λ one. not (is_payment one)) others) (filter is_payment others)
    (λ is. all_paid (suc i) others
    (sym (ap (λ (b : Bool). transactions_refusal (suc i) b others) (ap (λ (b : Bool). paid || b) is ∙ or_true paid)) ∙ both.1))
    rest.0 rest.1

-- ---- counting them

-- whether a payment was passed
paid_by : (b : Bool) (i plain : ℕ) (refusal : Option ListError) → plain ≤ i
    → (if b then refusal else (if nat_lt plain i then Some (Behind i) else None)) ≡ None
    → (nat_lt plain i || b) ≡ nat_lt (if b then plain else plain + 1) (i + 1)
paid_by true i plain refusal few h =
    let less : nat_lt plain (i + 1) ≡ true = grind (arith, nat_tests) in
    or_true (nat_lt plain i) ∙ sym less
paid_by false i plain refusal few h =
    let none : nat_lt plain i ≡ false = (if_none (nat_lt plain i) (Behind i) None h).0 in
    let not_less : nat_lt (plain + 1) (i + 1) ≡ false = grind (arith, nat_tests, none) in
    ap (λ (b : Bool). b || false) none ∙ sym not_less

pub paid_next : (i plain : ℕ) (one : List ℕ) → plain ≤ i → transaction_refusal i (nat_lt plain i) one ≡ None
    → (nat_lt plain i || is_payment one) ≡ nat_lt (if is_payment one then plain else plain + 1) (i + 1)
paid_next i plain one few h = paid_by (is_payment one) i plain (payment_refusal i (payment_entries one)) few h

-- a plain one is counted
count_by : (b : Bool) (plain : ℕ) (one : List ℕ) (others : List (List ℕ))
    → (if b then plain else plain + 1) + length others ≡ plain + length (if not b then one ∷ others else others)
count_by true plain one others = refl
count_by false plain one others = omega arith

pub count_next : (plain : ℕ) (one : List ℕ) (left others : List (List ℕ)) → left ≡ one ∷ others
    → (if is_payment one then plain else plain + 1) + length (filter (λ one. not (is_payment one)) others)
    ≡ plain + length (filter (λ one. not (is_payment one)) left)
count_next plain one left others is =
    count_by (is_payment one) plain one (filter (λ one. not (is_payment one)) others)
    ∙ sym (ap (λ (l : List (List ℕ)). plain + length (filter (λ one. not (is_payment one)) l)) is)

-- it isn't above the number that were passed
few_by : (b : Bool) (plain i : ℕ) → plain ≤ i → (if b then plain else plain + 1) ≤ i + 1
few_by true plain i few = omega arith
few_by false plain i few = omega arith

pub few_next : (plain i : ℕ) (one : List ℕ) → plain ≤ i → (if is_payment one then plain else plain + 1) ≤ i + 1
few_next plain i one few = few_by (is_payment one) plain i few

-- where all were passed, the plain ones are those that were counted
pub front_counted : (transactions left : List (List ℕ)) (i plain : ℕ) → read_refusal transactions ≡ transactions_refusal i (nat_lt plain i) left → left ≡ []
    → plain + length (filter (λ one. not (is_payment one)) left) ≡ length (filter (λ one. not (is_payment one)) transactions)
    → (filter (λ one. not (is_payment one)) transactions ≡ take plain transactions) × (filter is_payment transactions ≡ drop plain transactions)
front_counted transactions left i plain so_far none count =
    let taken : read_refusal transactions ≡ None = sym (transactions_none i (nat_lt plain i) left (read_refusal transactions) none so_far) in
    let all : plain ≡ length (filter (λ one. not (is_payment one)) transactions) =
    omega (arith, count, ap (λ (l : List (List ℕ)). length (filter (λ one. not (is_payment one)) l)) none) in
    let both = plain_first 0 false transactions taken in
    (both.0 ∙ ap (λ (n : ℕ). take n transactions) (sym all), both.1 ∙ ap (λ (n : ℕ). drop n transactions) (sym all))
