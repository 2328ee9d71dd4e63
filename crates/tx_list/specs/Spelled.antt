-- The one spelling of payments: no field that is empty or 0 is written, and each varint is the shortest (docs/RULES.md, "A block of the network").
use Rattle.std.specs.Prelude.{ℕ, List, [], ◌++◌, drop, map, codes, Option, None, Some}
use Rattle.std.specs.List.{flat_map}
use Rattle.share_split.specs.Blobs.{NamedBytes, signer_bytes}
use Rattle.proto_fields.specs.Spelled.{bytes_field, number_field}
use Rattle.tx_list.specs.Payments.{PaymentParts, ListParts}
use Rattle.tx_list.specs.Wrapped.{some_field}

-- the share version of a blob with a signer; that of others is 0
abbrev pub version_field : Option (List ℕ) → List ℕ
version_field None = []
version_field (Some signer) = number_field 3 1

-- a blob: its id, its bytes, and its signer
abbrev pub blob_spelling : NamedBytes → List ℕ
blob_spelling blob =
    some_field 1 (drop 1 blob.namespace.0) ++ (some_field 2 blob.bytes ++ (version_field blob.signer ++ some_field 5 (signer_bytes blob.signer)))

-- a payment
abbrev pub payment_spelling : PaymentParts → List ℕ
payment_spelling payment =
    some_field 1 payment.tx
    ++ (flat_map (λ blob. bytes_field 2 (blob_spelling blob)) payment.blobs ++ some_field 3 (codes "BLOB"))

-- the transactions of a list, each payment in its one spelling
abbrev pub spelled_list : ListParts → List (List ℕ)
spelled_list list = list.units ++ map payment_spelling list.payments
