-- What is promised of reading for all lists in their one spelling (docs/RULES.md, "A block of the network").
use Rattle.std.specs.Prelude.{◌≡◌, ◌<◌, ◌≤◌, ◌^◌, ℕ, true, false, List, length, IfSome, None}
use Rattle.std.specs.List.{AllByRecursion}
use Rattle.share_split.specs.Blobs.{NamedBytes, signer_size}
use Rattle.tx_list.specs.Payments.{PaymentParts, ListParts, IsLayable}
use Rattle.tx_list.specs.Spelled.{blob_spelling, payment_spelling, spelled_list}
use Rattle.tx_list.specs.Reads.{is_payment, payment_of, list_of}
use Rattle.tx_list.specs.ReadRefusals.{read_refusal}

-- ---- what has a spelling

-- a blob as types keep it, whose bytes can be counted
pub record HasSpelling (blob : NamedBytes) : Type 0 where
  pub layable : IsLayable blob
  pub signer : IfSome blob.signer (λ signer. length signer ≡ signer_size)
  pub fits : length (blob_spelling blob) < 2 ^ 64

-- a payment for such blobs, at least one
pub record IsSpellable (payment : PaymentParts) : Type 0 where
  pub some : 1 ≤ length payment.blobs
  pub blobs : AllByRecursion HasSpelling payment.blobs
  pub fits : length payment.tx < 2 ^ 64

-- a list of such payments, whose other transactions are none
pub record IsSpellableList (list : ListParts) : Type 0 where
  pub plain : AllByRecursion (λ unit. is_payment unit ≡ false) list.units
  pub payments : AllByRecursion IsSpellable list.payments

-- payments whose transactions and blobs can be counted
abbrev pub ArePaymentsCounted : List PaymentParts → Type 0
ArePaymentsCounted payments = AllByRecursion (λ payment.
    (length payment.tx < 2 ^ 64) × AllByRecursion (λ blob. length (blob_spelling blob) < 2 ^ 64) payment.blobs) payments

-- ---- it is read back

-- the one spelling of a payment is a payment
abbrev pub SpellingIsPayment : Type 0
SpellingIsPayment = (payment : PaymentParts) → IsSpellable payment → is_payment (payment_spelling payment) ≡ true

-- of just this transaction and these blobs
abbrev pub SpellingIsRead : Type 0
SpellingIsRead = (payment : PaymentParts) → IsSpellable payment → payment_of (payment_spelling payment) ≡ payment

-- no check refuses a list in its one spelling
abbrev pub SpelledIsTaken : Type 0
SpelledIsTaken = (list : ListParts) → IsSpellableList list → read_refusal (spelled_list list) ≡ None

-- it is read as that list
abbrev pub SpelledListIsRead : Type 0
SpelledListIsRead = (list : ListParts) → IsSpellableList list → list_of (spelled_list list) ≡ list

-- and the one spelling of a list that was read is read alike
abbrev pub SpelledAgain : Type 0
SpelledAgain = (transactions : List (List ℕ)) → read_refusal transactions ≡ None
    → ArePaymentsCounted (list_of transactions).payments
    → list_of (spelled_list (list_of transactions)) ≡ list_of transactions
