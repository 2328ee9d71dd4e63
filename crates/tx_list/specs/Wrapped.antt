-- Payments as their compact shares have them: each transaction is wrapped with the places of its blobs (docs/RULES.md, "A block of the network").
use Rattle.std.specs.Prelude.{ℕ, List, [], ◌∷◌, ◌++◌, length, take, drop, codes}
use Rattle.std.specs.List.{flat_map}
use Rattle.proto_fields.specs.Varints.{varint}
use Rattle.proto_fields.specs.Spelled.{bytes_field}
use Rattle.tx_list.specs.Payments.{PaymentParts}

-- a field of bytes; none where there are none
abbrev pub some_field : ℕ → List ℕ → List ℕ
some_field n [] = []
some_field n (byte ∷ bytes) = bytes_field n (byte ∷ bytes)

-- a transaction, wrapped with the places at which its blobs start
abbrev pub wrapped : List ℕ → List ℕ → List ℕ
wrapped tx places = some_field 1 tx ++ (some_field 2 (flat_map varint places) ++ some_field 3 (codes "INDX"))

-- payments, wrapped with the places of their blobs, payment after payment
unfoldable pub wrap_all : List PaymentParts → List ℕ → List (List ℕ)
wrap_all [] places = []
wrap_all (payment ∷ payments) places =
    wrapped payment.tx (take (length payment.blobs) places) ∷ wrap_all payments (drop (length payment.blobs) places)
