-- The room that is reserved for transactions and payments while the places of blobs are not known (docs/RULES.md, "A block of the network").
use Rattle.std.specs.Prelude.{ℕ, ◌+◌, List, length, replicate}
use Rattle.namespace_id.specs.Sizes.{most_shares}
use Rattle.share_split.specs.Units.{unit_share_count}
use Rattle.square_layout.specs.Plans.{blobs_bound}
use Rattle.tx_list.specs.Payments.{PaymentParts, ListParts, blobs_of}
use Rattle.tx_list.specs.Wrapped.{wrap_all}

-- a place behind each that a blob may have
abbrev pub full_place : ℕ
full_place = most_shares

-- payments, wrapped as long as their places can make them
abbrev pub wrap_full : List PaymentParts → List (List ℕ)
wrap_full payments = wrap_all payments (replicate (length (blobs_of payments)) full_place)

-- the place before which no blob of a list starts: how many compact shares it takes at most
abbrev pub list_reserve : ListParts → ℕ
list_reserve list = unit_share_count list.units + unit_share_count (wrap_full list.payments)

-- how many shares the width of a list's square is for: as many as its blobs may take at most, behind the reserved place
abbrev pub list_bound : ListParts → ℕ
list_bound list = list_reserve list + blobs_bound (blobs_of list.payments)
