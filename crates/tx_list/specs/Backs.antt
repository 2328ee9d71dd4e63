-- Which list of transactions a square is laid out as (docs/RULES.md, "A block of the network").
use Rattle.std.specs.Prelude.{◌≡◌, ℕ, List, None}
use Rattle.std.specs.List.{AllByRecursion}
use Rattle.share_split.specs.Blobs.{IsNamed}
use Rattle.square_layout.specs.Blocks.{SquareShares}
use Rattle.tx_list.specs.Payments.{blobs_of}
use Rattle.tx_list.specs.Reads.{list_of}
use Rattle.tx_list.specs.ReadRefusals.{read_refusal}
use Rattle.tx_list.specs.Refusals.{list_size_refusal}
use Rattle.tx_list.specs.Spelled.{spelled_list}
use Rattle.tx_list.specs.Lists.{square_of_list}

-- a list in its one spelling that is laid out as a square
pub record IsBack (square : SquareShares) (transactions : List (List ℕ)) : Type 0 where
  pub canonical : spelled_list (list_of transactions) ≡ transactions
  pub taken : read_refusal transactions ≡ None
  pub fits : list_size_refusal (list_of transactions) ≡ None
  pub laid : square_of_list (list_of transactions) ≡ square

-- transactions whose payments' blobs are of bytes
abbrev pub HaveNamedBlobs : List (List ℕ) → Type 0
HaveNamedBlobs transactions = AllByRecursion IsNamed (blobs_of (list_of transactions).payments)
