-- The text of a frame (docs/FORMATS.md, "Text of frames").
use Rattle.std.specs.Prelude.{ℕ, ◌+◌, List, [], ◌∷◌, ◌++◌, codes, decimal, length, map, get_or, Option, Some, None}
use Rattle.std.specs.List.{flat_map}
use Rattle.hex.specs.Hex.{encode_lower}
use Rattle.namespace_id.specs.declared.cells.Cell.{Cell}
use Rattle.namespace_id.specs.declared.cells.Axis.{Axis}
use Rattle.namespace_id.specs.declared.namespaces.Namespace.{Namespace}
use Rattle.namespace_id.specs.declared.digests.Digest.{Digest}
use Rattle.namespace_id.specs.declared.shares.Share.{Share}
use Rattle.namespace_id.specs.Cells.{CellList}
use Rattle.namespace_id.specs.Sizes.{namespace_size}
use Rattle.data_header.specs.Headers.{Roots}
use Rattle.data_header.specs.DataRoots.{data_root_of}
use Rattle.share_split.specs.Blobs.{NamedBytes}
use Rattle.square_layout.specs.Blocks.{SquareShares, BlockParts}
use Rattle.axis_roots.specs.declared.message.messages.Message.{Message}
use Rattle.axis_roots.specs.declared.answers.NsEntry.{NsEntry}
use Rattle.axis_roots.specs.declared.answers.Found.{Found}
use Rattle.axis_roots.specs.declared.answers.Found.TheVariants.{Range, Absence}
use Rattle.axis_roots.specs.Claims.{ClaimParts}
use Rattle.hash_clash.specs.Collisions.{Strings}
use Rattle.blob_commit.specs.Proofs.{CommitParts, RootedParts}
use Rattle.frame_payloads.specs.declared.refusals.Refusal.{Refusal}
use Rattle.frame_payloads.specs.kinds.Block.{width_number}
use Rattle.frame_payloads.specs.kinds.Refusal.{reason_byte}
use Rattle.da_wire.specs.declared.frames.Frame.{Frame}
use Rattle.da_wire.specs.declared.frames.Frame.TheVariants as frames
use Rattle.da_wire.specs.declared.briefs.Brief.{Brief}
use Rattle.da_wire.specs.declared.briefs.Brief.TheVariants as briefs
use Rattle.frame_payloads.specs.declared.shown.EntryPlace.{EntryPlace}
use Rattle.frame_payloads.specs.declared.shown.FoundPlace.{FoundPlace}
use Rattle.frame_payloads.specs.declared.shown.FoundPlace.TheVariants as places
use Rattle.da_show.specs.Parts.{axis_word, name_word, digest_word, share_name_word, share_hash_word}

-- ---- lines

-- a line of several words, with a space in front of each but the first
abbrev pub line : List ℕ → List (List ℕ) → List ℕ
line word [] = word
line word (next ∷ later) = word ++ (codes " " ++ line next later)

-- a word that says what a number is
abbrev pub named : List ℕ → ℕ → List ℕ
named name number = name ++ (codes "=" ++ decimal number)

-- lines of the elements of a list, each with its number, counted from the first one's on
abbrev pub numbered_lines : {A : Type 0} → (ℕ → A → List ℕ) → ℕ → List A → List (List ℕ)
numbered_lines line_of first [] = []
numbered_lines line_of first (x ∷ xs) = line_of first x ∷ numbered_lines line_of (first + 1) xs

-- ---- the lines of each kind

-- a root with the word of its axis
abbrev pub axis_root_line : List ℕ → ℕ → Digest → List ℕ
axis_root_line axis i root = line axis (decimal i ∷ digest_word root ∷ [])

-- a header's own line: its data root
abbrev pub header_line : Roots → List ℕ
header_line header =
    line (codes "header") (named (codes "k") header.k ∷ (codes "root=" ++ encode_lower (data_root_of header)) ∷ [])

-- a header: its data root and its roots
abbrev pub header_lines : Roots → List (List ℕ)
header_lines header =
    header_line header
    ∷ (numbered_lines (axis_root_line (codes "row")) 0 header.rows ++ numbered_lines (axis_root_line (codes "col")) 0 header.cols)

-- a share: its number, its namespace and its info byte
abbrev pub share_line : ℕ → Share → List ℕ
share_line i share =
    line (codes "share") (decimal i ∷ share_name_word share ∷ encode_lower (get_or share.0 namespace_size 0 ∷ []) ∷ [])

-- a square's own line
abbrev pub square_line : SquareShares → List ℕ
square_line square = line (codes "square") (named (codes "k") square.k ∷ [])

-- a square: its shares
abbrev pub square_lines : SquareShares → List (List ℕ)
square_lines square = square_line square ∷ numbered_lines share_line 0 square.shares

-- a cell and an axis, as a part of a line
unfoldable pub place : Cell → Axis → List ℕ
place cell axis =
    line (named (codes "row") cell.row) (named (codes "col") cell.col ∷ (codes "axis=" ++ axis_word axis) ∷ [])

-- a sample, with the hash of its share
abbrev pub message_line : Message → List ℕ
message_line m = line (codes "message")
    (place m.cell m.axis ∷ named (codes "nodes") (length m.path) ∷ (codes "share=" ++ share_hash_word m.share) ∷ [])

-- what is found in a row
abbrev pub found_words : Found → List (List ℕ)
found_words (Range start shares nodes) = codes "range" ∷ decimal start ∷ decimal (length shares) ∷ []
found_words (Absence pos leaf nodes) = codes "absent" ∷ decimal pos ∷ []

-- a row and what is found in it
abbrev pub row_line : ℕ → Found → List ℕ
row_line row found = line (codes "row") (decimal row ∷ found_words found)

-- an entry of a namespace answer
abbrev pub entry_line : NsEntry → List ℕ
entry_line entry = row_line entry.row entry.found

-- a range by its row, its start and how many shares it has
unfoldable pub range_line : ℕ → ℕ → ℕ → List ℕ
range_line row start count =
    line (codes "row") (decimal row ∷ codes "range" ∷ decimal start ∷ decimal count ∷ [])

-- an absence by its row and its column
unfoldable pub absence_line : ℕ → ℕ → List ℕ
absence_line row pos = line (codes "row") (decimal row ∷ codes "absent" ∷ decimal pos ∷ [])

-- where something is found in a row
abbrev pub found_place_line : ℕ → FoundPlace → List ℕ
found_place_line row (places.Range start count) = range_line row start count
found_place_line row (places.Absence pos) = absence_line row pos

-- where an entry of a namespace answer found something
abbrev pub place_line : EntryPlace → List ℕ
place_line entry = found_place_line entry.row entry.found

-- the own line of a namespace answer of so many entries
abbrev pub names_line : Namespace → ℕ → List ℕ
names_line name count = line (codes "namespace") (name_word name ∷ named (codes "entries") count ∷ [])

-- a namespace answer: its entries
abbrev pub names_lines : Namespace → List NsEntry → List (List ℕ)
names_lines name entries = names_line name (length entries) ∷ map entry_line entries

-- a namespace answer: where its entries found something
abbrev pub places_lines : Namespace → List EntryPlace → List (List ℕ)
places_lines name entries = names_line name (length entries) ∷ map place_line entries

-- a fraud claim's own line
abbrev pub claim_line : ClaimParts → List ℕ
claim_line claim =
    line (codes "fraud") (axis_word claim.axis ∷ decimal claim.index ∷ named (codes "cells") (length claim.cells) ∷ [])

-- a fraud claim, with a line for each of its samples
abbrev pub claim_lines : ClaimParts → List (List ℕ)
claim_lines claim = claim_line claim ∷ map message_line claim.cells

-- a cell
abbrev pub cell_line : Cell → List ℕ
cell_line cell = line (codes "cell") (decimal cell.row ∷ decimal cell.col ∷ [])

-- the own line of missing cells
abbrev pub missing_line : CellList → List ℕ
missing_line cells = line (codes "missing") (named (codes "k") cells.k ∷ named (codes "count") (length cells.list) ∷ [])

-- missing cells: a line for each
abbrev pub missing_lines : CellList → List (List ℕ)
missing_lines cells = missing_line cells ∷ map cell_line cells.list

-- a string of a collision behind a word
abbrev pub string_line : List ℕ → List ℕ → List ℕ
string_line word bytes = line word (encode_lower bytes ∷ [])

-- a collision: its two strings
abbrev pub clash_lines : Strings → List (List ℕ)
clash_lines clash =
    codes "clash" ∷ string_line (codes "left") clash.left ∷ string_line (codes "right") clash.right ∷ []

-- a request for a sample
abbrev pub sample_line : Cell → Axis → List ℕ
sample_line cell axis = line (codes "sample") (place cell axis ∷ [])

-- a request for the shares of a namespace
abbrev pub request_line : Namespace → List ℕ
request_line name = line (codes "request") (name_word name ∷ [])

-- a unit: its length
abbrev pub unit_line : List ℕ → List ℕ → List ℕ
unit_line word unit = line word (decimal (length unit) ∷ [])

-- a signer, if there is one
abbrev pub signer_words : Option (List ℕ) → List (List ℕ)
signer_words None = []
signer_words (Some signer) = codes "signer" ∷ encode_lower signer ∷ []

-- a blob: its namespace, its length and its signer
abbrev pub block_blob_line : NamedBytes → List ℕ
block_blob_line blob =
    line (codes "blob") (name_word blob.namespace ∷ decimal (length blob.bytes) ∷ signer_words blob.signer)

-- how many units, units of payments and blobs there are, as a part of a line
unfoldable pub counts : ℕ → ℕ → ℕ → List ℕ
counts units pay_units blobs =
    line (named (codes "units") units) (named (codes "pay") pay_units ∷ named (codes "blobs") blobs ∷ [])

-- the own line of a block that asks for this width, 0 for none, and has so much in it
unfoldable pub sized_line : ℕ → ℕ → ℕ → ℕ → List ℕ
sized_line width units pay_units blobs =
    line (codes "block") (named (codes "width") width ∷ counts units pay_units blobs ∷ [])

-- a block's own line: the width that it asks for, and how much is in it
abbrev pub block_line : BlockParts → List ℕ
block_line block =
    sized_line (width_number block.width) (length block.units) (length block.pay_units) (length block.blobs)

-- the units of a block, and then those of payments
abbrev pub unit_lines : BlockParts → List (List ℕ)
unit_lines block = map (unit_line (codes "unit")) block.units ++ map (unit_line (codes "pay")) block.pay_units

-- a block: the lengths of what is in it
abbrev pub block_lines : BlockParts → List (List ℕ)
block_lines block = block_line block ∷ (unit_lines block ++ map block_blob_line block.blobs)

-- a commitment proof: its width, its range, its commitment, and how many rows it has
abbrev pub commit_line : CommitParts → List ℕ
commit_line proof = line (codes "commit")
    (named (codes "k") proof.k ∷ named (codes "start") proof.start ∷ named (codes "count") proof.count
    ∷ (codes "commitment=" ++ encode_lower proof.commitment) ∷ named (codes "rows") (length proof.rows) ∷ [])

-- a root proof's own line: its width, and the root of its axis
abbrev pub rooted_line : RootedParts → List ℕ
rooted_line proof =
    line (codes "rooted") (named (codes "k") proof.k ∷ (codes "root=" ++ digest_word proof.root) ∷ [])

-- a root proof, with the line of its sample
abbrev pub rooted_lines : RootedParts → List (List ℕ)
rooted_lines proof = rooted_line proof ∷ message_line proof.message ∷ []

-- transactions' own line: how many there are
abbrev pub transactions_line : List (List ℕ) → List ℕ
transactions_line units = line (codes "transactions") (named (codes "count") (length units) ∷ [])

-- transactions: their lengths
abbrev pub transactions_lines : List (List ℕ) → List (List ℕ)
transactions_lines units = transactions_line units ∷ map (unit_line (codes "transaction")) units

-- a refusal: its reason, and the number of the refused frame
abbrev pub refusal_line : Refusal → List ℕ
refusal_line refusal = line (codes "refusal")
    (named (codes "reason") (reason_byte refusal.reason) ∷ named (codes "number") refusal.number ∷ [])

-- a state
abbrev pub state_line : List ℕ
state_line = codes "state"

-- ---- the text

-- the lines of a frame
abbrev pub lines_of : Frame → List (List ℕ)
lines_of (frames.Header header) = header_lines header
lines_of (frames.Square square) = square_lines square
lines_of (frames.Message message) = message_line message ∷ []
lines_of (frames.Names name answer) = names_lines name answer
lines_of (frames.Fraud claim) = claim_lines claim
lines_of (frames.Missing cells) = missing_lines cells
lines_of (frames.Clash clash) = clash_lines clash
lines_of (frames.Sample cell axis) = sample_line cell axis ∷ []
lines_of (frames.Request name) = request_line name ∷ []
lines_of (frames.Block block) = block_lines block
lines_of (frames.Commit proof) = commit_line proof ∷ []
lines_of (frames.Rooted proof) = rooted_lines proof
lines_of (frames.Transactions units) = transactions_lines units
lines_of (frames.Refusal refusal) = refusal_line refusal ∷ []
lines_of frames.State = state_line ∷ []

-- the lines of what is brief of a frame
abbrev pub brief_lines : Brief → List (List ℕ)
brief_lines (briefs.Names name found) = places_lines name found
brief_lines (briefs.Fraud claim) = claim_lines claim
brief_lines (briefs.Missing cells) = missing_lines cells
brief_lines (briefs.Sample cell axis) = sample_line cell axis ∷ []
brief_lines (briefs.Request name) = request_line name ∷ []
brief_lines (briefs.Block block) = block_lines block
brief_lines (briefs.Transactions units) = transactions_lines units
brief_lines (briefs.Refusal refusal) = refusal_line refusal ∷ []
brief_lines briefs.State = state_line ∷ []

-- lines that come after another, each behind a line feed
abbrev pub following : List (List ℕ) → List ℕ
following lines = flat_map (λ text. 10 ∷ text) lines

-- lines with a line feed between each two
abbrev pub joined : List (List ℕ) → List ℕ
joined [] = []
joined (first ∷ later) = first ++ following later

-- the text of a frame
abbrev pub shown_text : Frame → List ℕ
shown_text frame = joined (lines_of frame)
