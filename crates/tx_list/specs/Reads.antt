-- What transactions are read as: payments for blobs, which carry their blobs, and plain transactions, whatever their
-- bytes (docs/RULES.md, "A block of the network").
use Rattle.std.specs.Prelude.{ℕ, ◌%◌, ◌^◌, ◌==◌, ◌&&◌, Bool, List, [], ◌∷◌, filter, map, not, codes, None, Some, is_some, if◌then◌else◌}
use Rattle.std.specs.List.{list_all}
use Rattle.std.specs.Option.{option_map_or}
use Rattle.std.specs.Str.{bytes_eq}
use Rattle.share_split.specs.Blobs.{NamedBytes}
use Rattle.proto_fields.specs.Fields.{FieldParts, fields_of, all_bytes, last_bytes, last_number}
use Rattle.tx_list.specs.Payments.{PaymentParts, ListParts}

-- ---- fields

-- whether bytes are fields
abbrev pub are_fields : List ℕ → Bool
are_fields bytes = is_some (fields_of bytes)

-- the fields that bytes are; none where they aren't fields
abbrev pub fields_in : List ℕ → List FieldParts
fields_in bytes = option_map_or (λ fields. fields) (fields_of bytes) []

-- ---- payments

-- the blobs that a payment carries: each field of number 2 that is bytes
abbrev pub payment_entries : List ℕ → List (List ℕ)
payment_entries bytes = all_bytes 2 (fields_in bytes)

-- whether a transaction is a payment: it is fields, its type id is `BLOB`, and each blob that it carries is fields
abbrev pub is_payment : List ℕ → Bool
is_payment bytes =
    are_fields bytes && bytes_eq (last_bytes 3 (fields_in bytes)) (codes "BLOB") && list_all are_fields (payment_entries bytes)

-- the transaction in a payment
abbrev pub tx_in : List ℕ → List ℕ
tx_in bytes = last_bytes 1 (fields_in bytes)

-- ---- blobs

-- a number, of which the lowest 32 bits count
abbrev pub low_number : ℕ → List FieldParts → ℕ
low_number n fields = last_number n fields % 2 ^ 32

-- a blob as a payment states it
pub record StatedBlob : Type 0 where
  pub version : ℕ
  pub id : List ℕ
  pub bytes : List ℕ
  pub share_version : ℕ
  pub signer : List ℕ

-- the blob that bytes state
abbrev pub stated : List ℕ → StatedBlob
stated entry = record {
  version = low_number 4 (fields_in entry);
  id = last_bytes 1 (fields_in entry);
  bytes = last_bytes 2 (fields_in entry);
  share_version = low_number 3 (fields_in entry);
  signer = last_bytes 5 (fields_in entry);
}

-- it under its namespace; it has a signer where its share version isn't 0
abbrev pub blob_of : StatedBlob → NamedBytes
blob_of blob = record {
  namespace = record { 0 = blob.version ∷ blob.id };
  bytes = blob.bytes;
  signer = if blob.share_version == 0 then None else Some blob.signer;
}

-- ---- lists

-- the payment that a transaction is
abbrev pub payment_of : List ℕ → PaymentParts
payment_of bytes = record { tx = tx_in bytes; blobs = map (λ entry. blob_of (stated entry)) (payment_entries bytes) }

-- transactions that were read: those that are no payments, and the payments
abbrev pub list_of : List (List ℕ) → ListParts
list_of transactions = record {
  units = filter (λ one. not (is_payment one)) transactions;
  payments = map payment_of (filter is_payment transactions);
}
