-- Where the square of a list is that of a block: its blobs start behind its compact shares, and no padding stands behind
-- a signed blob (docs/RULES.md, "A block of the network").
use Rattle.std.specs.Prelude.{◌≡◌, ℕ, List, [], ◌∷◌, ◌++◌, Some, None}
use Rattle.share_split.specs.Blobs.{NamedBytes}
use Rattle.share_split.specs.Units.{unit_share_count}
use Rattle.square_layout.specs.Layout.{in_order, start_after, end_of, block_square}
use Rattle.square_layout.specs.Refusals.{layout_refusal}
use Rattle.tx_list.specs.Payments.{ListParts, blobs_of}
use Rattle.tx_list.specs.Reserves.{wrap_full, list_reserve}
use Rattle.tx_list.specs.Lists.{written_list, block_of_list, square_of_list}

-- of blobs that stand in this order, behind what ends at `end`, each that follows a signed one starts where that ends
abbrev pub HaveNoSignedGap : ℕ → List NamedBytes → Type 0
HaveNoSignedGap end blobs =
    (before after : List NamedBytes) (signed next : NamedBytes) (signer : List ℕ)
    → blobs ≡ before ++ signed ∷ next ∷ after → signed.signer ≡ Some signer
    → start_after (end_of end (before ++ signed ∷ [])) next ≡ end_of end (before ++ signed ∷ [])

-- no padding stands between a signed blob of a list and the blob behind it
abbrev pub HasNoSignedGap : ListParts → Type 0
HasNoSignedGap list = HaveNoSignedGap (list_reserve list) (in_order (blobs_of list.payments))

-- the written payments of a list take as many compact shares as are reserved for them
abbrev pub TakesReserve : ListParts → Type 0
TakesReserve list = unit_share_count (written_list list) ≡ unit_share_count (wrap_full list.payments)

-- the block of a list's plain transactions, written payments, blobs and width isn't refused, and has the list's square
pub record IsSquareOfBlock (list : ListParts) : Type 0 where
  pub accepted : layout_refusal (block_of_list list) ≡ None
  pub same : block_square (block_of_list list) ≡ square_of_list list
