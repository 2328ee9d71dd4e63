-- What was read has a spelling, which is read alike.
use Rattle.std.proofs.Common.{true, false, ◌≡◌, ℕ, ◌^◌, ◌<◌, ◌==◌, not, cond, Bool, List, [], ◌∷◌, length, map, filter, Some, None, IfSome, refl}
use Rattle.std.specs.List.{AllByRecursion}
use Rattle.share_split.specs.Blobs.{signer_size}
use Rattle.tx_list.specs.Spelled.{blob_spelling, spelled_list}
use Rattle.tx_list.specs.Reads.{payment_entries, is_payment, tx_in, stated, blob_of, payment_of, list_of}
use Rattle.tx_list.specs.ReadRefusals.{read_refusal}
use Rattle.tx_list.specs.Walks.{IsTaken, IsTakenPayment, AreTaken}
use Rattle.tx_list.specs.ReadLaws.{HasSpelling, IsSpellable, ArePaymentsCounted}
use Rattle.tx_list.proofs.TakingLemmas.{signer_taken, taken_layable, taken_payment, all_taken}
use Rattle.tx_list.proofs.SpelledListLemmas.{spelled_is_read}

-- the signer of a blob that was taken has 20 bytes
signer_has : (none : Bool) (signer : List ℕ) → (none ≡ false → length signer ≡ signer_size) → IfSome (cond none None (Some signer)) (λ s. length s ≡ signer_size)
signer_has true signer size = tt
signer_has false signer size = size refl

-- so the blobs of a payment that was taken have a spelling
blobs_have : (entries : List (List ℕ)) → AllByRecursion (λ entry. IsTaken (stated entry)) entries
    → AllByRecursion (λ blob. length (blob_spelling blob) < 2 ^ 64) (map (λ entry. blob_of (stated entry)) entries)
    → AllByRecursion HasSpelling (map (λ entry. blob_of (stated entry)) entries)
blobs_have [] taken counted = tt
blobs_have (entry ∷ entries) taken counted =
    let blob = stated entry in (
      record {
        layable = taken_layable blob taken.0;
        signer = signer_has (blob.share_version == 0) blob.signer (signer_taken blob.share_version blob.signer taken.0.versioned);
        fits = counted.0;
      },
      blobs_have entries taken.1 counted.1,
    )

-- and so has the next transaction, if it is a payment
payments_step : (is : Bool) (one : List ℕ) (others : List (List ℕ)) → (is ≡ true → IsTakenPayment one)
    → (ArePaymentsCounted (map payment_of others) → AllByRecursion IsSpellable (map payment_of others))
    → ArePaymentsCounted (map payment_of (cond is (one ∷ others) others)) → AllByRecursion IsSpellable (map payment_of (cond is (one ∷ others) others))
payments_step true one others taken rest counted = (
  record {
    some = (taken_payment (tx_in one) one (taken refl)).some;
    blobs = blobs_have (payment_entries one) (taken refl).blobs counted.0.1;
    fits = counted.0.0;
  },
  rest counted.1,
)
payments_step false one others taken rest counted = rest counted

payments_have : (transactions : List (List ℕ)) → AreTaken transactions → ArePaymentsCounted (map payment_of (filter is_payment transactions))
    → AllByRecursion IsSpellable (map payment_of (filter is_payment transactions))
payments_have [] taken counted = tt
payments_have (one ∷ others) taken counted =
    payments_step (is_payment one) one (filter is_payment others) taken.0 (payments_have others taken.1) counted

-- those that are no payments are none
plain_step : (is : Bool) (one : List ℕ) (others : List (List ℕ)) → is_payment one ≡ is → AllByRecursion (λ unit. is_payment unit ≡ false) others
    → AllByRecursion (λ unit. is_payment unit ≡ false) (cond (not is) (one ∷ others) others)
plain_step true one others e rest = rest
plain_step false one others e rest = (e, rest)

units_plain : (transactions : List (List ℕ)) → AllByRecursion (λ unit. is_payment unit ≡ false) (filter (λ one. not (is_payment one)) transactions)
units_plain [] = tt
units_plain (one ∷ others) = plain_step (is_payment one) one (filter (λ one. not (is_payment one)) others) refl (units_plain others)

-- so the list in its one spelling is read alike
pub read_again : (transactions : List (List ℕ)) → read_refusal transactions ≡ None → ArePaymentsCounted (list_of transactions).payments
    → list_of (spelled_list (list_of transactions)) ≡ list_of transactions
read_again transactions h counted =
    spelled_is_read (list_of transactions)
    (record { plain = units_plain transactions; payments = payments_have transactions (all_taken 0 false transactions h) counted })
