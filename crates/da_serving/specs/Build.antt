-- build BLOCK: the square of a block, or of a list of transactions.
use Rattle.std.specs.Prelude.{ℕ, List, Option, MatchOption}
use Rattle.std.specs.Option.{option_or}
use Rattle.square_layout.specs.Blocks.{BlockParts}
use Rattle.square_layout.specs.Layout.{block_square}
use Rattle.square_layout.specs.Refusals.{layout_refusal}
use Rattle.tx_list.specs.declared.refusals.ListError.{ListError}
use Rattle.tx_list.specs.Reads.{list_of}
use Rattle.tx_list.specs.Lists.{square_of_list}
use Rattle.tx_list.specs.ReadRefusals.{read_refusal}
use Rattle.tx_list.specs.Refusals.{list_size_refusal}
use Rattle.da_wire.specs.declared.frames.Frame.TheVariants.{Square}
use Rattle.da_status.specs.declared.status.Status.TheVariants.{BadBlock, BadList}
use Rattle.da_files.specs.Contents.{file_of}
use Rattle.da_status.specs.Outcome.{Relation, Refuses}
use Rattle.da_files.specs.declared.frames.BlockOrList.{BlockOrList}
use Rattle.da_files.specs.declared.frames.BlockOrList.TheVariants.{Block, Transactions}
use Rattle.da_files.specs.Frames.{block_or_list_in, Writes}
use Rattle.da_files.specs.Forms.{Over}

-- BLOCK, the one file of build
abbrev pub block_file : List (List ℕ) → List ℕ
block_file files = file_of files 0

-- what build answers to a block: the first refusal of it, or the frame of its square
abbrev pub Builds : BlockParts → Relation
Builds block w status =
    MatchOption (layout_refusal block) (Writes (Square (block_square block)) w status) (λ why. Refuses (BadBlock why) w status)

-- why a list of transactions has no square: the first check of reading it that fails, and then its size
abbrev pub list_refusal : List (List ℕ) → Option ListError
list_refusal transactions = option_or (read_refusal transactions) (list_size_refusal (list_of transactions))

-- what build answers to a list of transactions: the first refusal of it, or the frame of its square
abbrev pub BuildsList : List (List ℕ) → Relation
BuildsList transactions w status =
    MatchOption (list_refusal transactions) (Writes (Square (square_of_list (list_of transactions))) w status)
    (λ why. Refuses (BadList why) w status)

-- what build answers to either
abbrev pub BuildsEither : BlockOrList → Relation
BuildsEither (Block block) = Builds block
BuildsEither (Transactions transactions) = BuildsList transactions

-- what build answers to a BLOCK that is a block or a list of transactions
abbrev pub BuildOf : List (List ℕ) → Relation
BuildOf files = Over (block_or_list_in (block_file files)) BuildsEither
