-- commit BLOCK: the commitments of the blobs of a block, or of a list of transactions.
use Rattle.std.specs.Prelude.{ℕ, List, ◌++◌, codes, MatchOption}
use Rattle.std.specs.List.{flat_map}
use Rattle.hex.specs.Hex.{encode_lower}
use Rattle.share_split.specs.Blobs.{NamedBytes, blob_shares_of}
use Rattle.square_layout.specs.Blocks.{BlockParts}
use Rattle.square_layout.specs.Refusals.{layout_refusal}
use Rattle.tx_list.specs.Payments.{blobs_of}
use Rattle.tx_list.specs.Reads.{list_of}
use Rattle.blob_commit.specs.Commitments.{commitment_over}
use Rattle.da_status.specs.declared.status.Status.TheVariants.{Done, BadBlock, BadList}
use Rattle.da_status.specs.Outcome.{Relation, Refuses}
use Rattle.da_files.specs.declared.frames.BlockOrList.{BlockOrList}
use Rattle.da_files.specs.declared.frames.BlockOrList.TheVariants.{Block, Transactions}
use Rattle.da_files.specs.Frames.{block_or_list_in, WritesText}
use Rattle.da_files.specs.Forms.{Over}
use Rattle.da_serving.specs.Build.{block_file, list_refusal}

-- the commitment of a blob: that of its shares
abbrev pub commitment_of : NamedBytes → List ℕ
commitment_of blob = commitment_over (blob_shares_of blob.namespace blob.signer blob.bytes)

-- the line of a blob: its commitment in hexadecimal digits
abbrev pub commitment_line : NamedBytes → List ℕ
commitment_line blob = encode_lower (commitment_of blob) ++ codes "\n"

-- the lines of blobs, in their order
abbrev pub commitment_lines : List NamedBytes → List ℕ
commitment_lines blobs = flat_map commitment_line blobs

-- what commit answers to a block: the refusal of a block that can't be laid out, or a line for each of its blobs
abbrev pub Commits : BlockParts → Relation
Commits block w status =
    MatchOption (layout_refusal block) (WritesText Done (commitment_lines block.blobs) w status)
    (λ why. Refuses (BadBlock why) w status)

-- the lines of the blobs of a list of transactions, payment after payment
abbrev pub list_lines : List (List ℕ) → List ℕ
list_lines transactions = commitment_lines (blobs_of (list_of transactions).payments)

-- what commit answers to a list of transactions: the refusal of one that has no square, or a line for each of its blobs
abbrev pub CommitsList : List (List ℕ) → Relation
CommitsList transactions w status =
    MatchOption (list_refusal transactions) (WritesText Done (list_lines transactions) w status)
    (λ why. Refuses (BadList why) w status)

-- what commit answers to either
abbrev pub CommitsEither : BlockOrList → Relation
CommitsEither (Block block) = Commits block
CommitsEither (Transactions transactions) = CommitsList transactions

-- what commit answers to a BLOCK that is a block or a list of transactions
abbrev pub CommitOf : List (List ℕ) → Relation
CommitOf files = Over (block_or_list_in (block_file files)) CommitsEither
