-- Payments for blobs, and lists of transactions, as contracts see them (docs/RULES.md, "A block of the network").
use Rattle.std.specs.Prelude.{◌≡◌, ◌≤◌, ℕ, true, List, length}
use Rattle.std.specs.List.{AllByRecursion, flat_map}
use Rattle.namespace_id.specs.Names.{is_blob_namespace}
use Rattle.share_split.specs.Blobs.{NamedBytes}

-- a payment: the signed transaction in it, and its blobs
pub record PaymentParts : Type 0 where
  pub tx : List ℕ
  pub blobs : List NamedBytes

-- a list of transactions: those that pay for no blobs, and the payments
pub record ListParts : Type 0 where
  pub units : List (List ℕ)
  pub payments : List PaymentParts

-- the blobs of payments, payment after payment
abbrev pub blobs_of : List PaymentParts → List NamedBytes
blobs_of payments = flat_map (λ payment. payment.blobs) payments

-- a blob with a namespace of a blob, and bytes
pub record IsLayable (blob : NamedBytes) : Type 0 where
  pub named : is_blob_namespace blob.namespace.0 ≡ true
  pub some : 1 ≤ length blob.bytes

-- a payment for such blobs, at least one
pub record IsPayment (payment : PaymentParts) : Type 0 where
  pub some : 1 ≤ length payment.blobs
  pub blobs : AllByRecursion IsLayable payment.blobs
