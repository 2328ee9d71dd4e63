-- What the steps of reading transactions answer.
use Rattle.std.specs.Prelude.{◌≡◌, ℕ, suc, ◌%◌, ◌^◌, ◌≤◌, ◌==◌, ◌&&◌, Bool, true, false, List, [], ◌∷◌, ◌++◌, length, map, codes, Option, Some, None, if◌then◌else◌}
use Rattle.std.specs.List.{AllByRecursion, list_all}
use Rattle.std.specs.Option.{option_or}
use Rattle.std.specs.Str.{bytes_eq}
use Rattle.share_split.specs.Blobs.{NamedBytes}
use Rattle.proto_fields.specs.Fields.{ValueParts, number_value, bytes_value, other_value, FieldParts}
use Rattle.tx_list.specs.declared.reading.Stated.{Stated}
use Rattle.tx_list.specs.declared.checking.Checked.{Checked}
use Rattle.tx_list.specs.declared.checking.Judged.{Judged}
use Rattle.tx_list.specs.declared.checking.Judged.TheVariants as judged
use Rattle.tx_list.specs.declared.refusals.ListError.{ListError}
use Rattle.tx_list.specs.declared.refusals.ListError.TheVariants.{NoBlobs}
use Rattle.tx_list.specs.Payments.{PaymentParts}
use Rattle.tx_list.specs.Reads.{are_fields, payment_entries, is_payment, StatedBlob, stated, blob_of, payment_of}
use Rattle.tx_list.specs.ReadRefusals.{name_refusal, has_version, blob_refusal, payment_refusal}

-- the bytes that a value is
abbrev pub bytes_value_of : ValueParts → Option (List ℕ)
bytes_value_of (number_value number) = None
bytes_value_of (bytes_value bytes) = Some bytes
bytes_value_of other_value = None

-- the blob that a field of a payment carries
abbrev pub blob_entry : FieldParts → Option (List ℕ)
blob_entry field = if field.number == 2 then bytes_value_of field.value else None

-- a blob as a payment states it, wherever its bytes lie
abbrev pub stated_parts : Stated → StatedBlob
stated_parts blob = record {
  version = blob.version;
  id = blob.id.now;
  bytes = blob.bytes.now;
  share_version = blob.share_version;
  signer = blob.signer.now;
}

-- it with numbers of 32 bits
abbrev pub lowered : StatedBlob → StatedBlob
lowered blob = record {
  version = blob.version % 2 ^ 32;
  id = blob.id;
  bytes = blob.bytes;
  share_version = blob.share_version % 2 ^ 32;
  signer = blob.signer;
}

-- ---- the checks of a transaction

-- the blobs of a transaction that were checked, and one more: whether it is fields, and why it isn't one
abbrev pub with_checked : Checked → Bool → Option ListError → Checked
with_checked checked fine refusal = record {
  count = suc checked.count;
  are_fields = checked.are_fields && fine;
  refusal = option_or checked.refusal refusal;
}

-- the blobs of transaction i that were checked, and one more; no check is of one that isn't fields
abbrev pub with_one_blob : ℕ → Checked → List ℕ → Checked
with_one_blob i checked entry = record {
  count = suc checked.count;
  are_fields = checked.are_fields && are_fields entry;
  refusal = if are_fields entry then option_or checked.refusal (blob_refusal i checked.count (stated entry)) else checked.refusal;
}

-- and some more
unfoldable pub with_entries : ℕ → Checked → List (List ℕ) → Checked
with_entries i checked [] = checked
with_entries i checked (entry ∷ entries) = with_entries i (with_one_blob i checked entry) entries

-- what transaction i is, and, where it is a payment, why it isn't taken
abbrev pub judgement : ℕ → List ℕ → Judged
judgement i bytes = if is_payment bytes then judged.Payment (payment_refusal i (payment_entries bytes)) else judged.Plain

-- the same by what a walk over its fields has left, the last type id, and its blobs
abbrev pub judged_fields : ℕ → List ℕ → List ℕ → Checked → Judged
judged_fields i rest type_id checked =
    if (length rest == 0) && bytes_eq type_id (codes "BLOB") && checked.are_fields
    then judged.Payment (if checked.count == 0 then Some (NoBlobs i) else checked.refusal) else judged.Plain

-- ---- what is taken

-- whether a transaction is a payment that is taken
abbrev pub has_payment : Judged → Bool
has_payment judged.Plain = false
has_payment (judged.Payment None) = true
has_payment (judged.Payment (Some why)) = false

-- the payment that is taken of a transaction, if one is
abbrev pub taken_payments : Judged → List ℕ → List PaymentParts
taken_payments judged.Plain bytes = []
taken_payments (judged.Payment None) bytes = payment_of bytes ∷ []
taken_payments (judged.Payment (Some why)) bytes = []

-- blobs, and those that bytes state behind them
abbrev pub with_blobs : List NamedBytes → List (List ℕ) → List NamedBytes
with_blobs blobs entries = blobs ++ map (λ entry. blob_of (stated entry)) entries

-- a blob that no check refuses
pub record IsTaken (blob : StatedBlob) : Type 0 where
  pub named : name_refusal blob.version blob.id ≡ None
  pub versioned : has_version blob.share_version blob.signer ≡ true
  pub some : 1 ≤ length blob.bytes

-- bytes that state one
pub record IsTakenEntry (entry : List ℕ) : Type 0 where
  pub fields : are_fields entry ≡ true
  pub blob : IsTaken (stated entry)

-- a payment that no check refuses
pub record IsTakenPayment (bytes : List ℕ) : Type 0 where
  pub fields : are_fields bytes ≡ true
  pub entries : list_all are_fields (payment_entries bytes) ≡ true
  pub some : 1 ≤ length (payment_entries bytes)
  pub blobs : AllByRecursion (λ entry. IsTaken (stated entry)) (payment_entries bytes)

-- transactions whose payments no check refuses
abbrev pub AreTaken : List (List ℕ) → Type 0
AreTaken transactions = AllByRecursion (λ one. is_payment one ≡ true → IsTakenPayment one) transactions
