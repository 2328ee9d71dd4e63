-- The places that a list's payments state, and what stands there in its square (docs/RULES.md, "A block of the network").
use Rattle.std.specs.Prelude.{◌≡◌, ◌≤◌, ℕ, ◌+◌, ◌*◌, ◌%◌, List, ◌∷◌, ◌++◌, length, take, drop, slice_get, Some}
use Rattle.share_split.specs.Widths.{subtree_width_of}
use Rattle.share_split.specs.Blobs.{NamedBytes, blob_shares_of}
use Rattle.square_layout.specs.Blocks.{SquareShares}
use Rattle.square_layout.specs.Layout.{in_order, share_count_of, start_after, end_of}
use Rattle.tx_list.specs.Payments.{PaymentParts, ListParts, blobs_of}
use Rattle.tx_list.specs.Reserves.{list_reserve}
use Rattle.tx_list.specs.Unwrapped.{wrapped_tx, wrapped_places}
use Rattle.tx_list.specs.Lists.{list_places, written_list}

-- the payment behind these of a list is written as a unit of which its transaction is read, and the places of its blobs
pub record StatesPlaces (list : ListParts) (earlier : List PaymentParts) (payment : PaymentParts) : Type 0 where
  pub unit : List ℕ
  pub there : slice_get (written_list list) (length earlier) ≡ Some unit
  pub tx : wrapped_tx unit ≡ payment.tx
  pub places : wrapped_places unit
      ≡ take (length payment.blobs) (drop (length (blobs_of earlier)) (list_places list))

-- a place is the one at which a blob of a list starts, behind those that precede it in order
pub record IsStart (list : ListParts) (place : ℕ) (blob : NamedBytes) : Type 0 where
  pub before : List NamedBytes
  pub behind : List NamedBytes
  pub order : in_order (blobs_of list.payments) ≡ before ++ blob ∷ behind
  pub start : place ≡ start_after (end_of (list_reserve list) before) blob

-- from a place on a square has as many shares as a blob takes, and these are the blob's; the place is a multiple of the
-- width of their subtrees
pub record IsRangeOf (square : SquareShares) (place : ℕ) (blob : NamedBytes) : Type 0 where
  pub some : 1 ≤ share_count_of blob
  pub inside : place + share_count_of blob ≤ square.k * square.k
  pub aligned : place % subtree_width_of (share_count_of blob) ≡ 0
  pub shares : take (share_count_of blob) (drop place square.shares)
      ≡ blob_shares_of blob.namespace blob.signer blob.bytes
