-- transactions SQUARE: the list of transactions that a square is laid out of.
use Rattle.std.specs.Prelude.{ℕ, List, MatchOption}
use Rattle.square_layout.specs.Blocks.{SquareShares}
use Rattle.tx_list.specs.Spelled.{spelled_list}
use Rattle.tx_list.specs.BackRefusals.{back_list, back_refusal}
use Rattle.da_wire.specs.declared.frames.Frame.TheVariants.{Transactions}
use Rattle.da_wire.specs.Spelling.{spelling}
use Rattle.da_status.specs.declared.status.Asked.TheVariants.{NoList, LongList}
use Rattle.da_status.specs.declared.status.Status.TheVariants.{Done, BadRequest}
use Rattle.da_status.specs.Outcome.{Relation, Refuses}
use Rattle.da_files.specs.Contents.{square_file}
use Rattle.da_files.specs.Frames.{square_in, WritesText}
use Rattle.da_files.specs.Forms.{Over}

-- the frame of a list, or the refusal of a list that has no spelling
abbrev pub WritesList : List (List ℕ) → Relation
WritesList transactions w status =
    MatchOption (spelling (Transactions transactions)) (Refuses (BadRequest LongList) w status)
    (λ text. WritesText Done text w status)

-- what transactions answers to a square: why it is laid out of no list, or the frame of its list
abbrev pub Unlays : SquareShares → Relation
Unlays square w status =
    MatchOption (back_refusal square) (WritesList (spelled_list (back_list square)) w status)
    (λ why. Refuses (BadRequest (NoList why)) w status)

-- what transactions answers to a SQUARE that is a square
abbrev pub TransactionsOf : List (List ℕ) → Relation
TransactionsOf files = Over (square_in (square_file files)) Unlays
