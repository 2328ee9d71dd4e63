-- The texts of the objects of frames, as they are put together (docs/FORMATS.md, "JSON of frames").
use Rattle.std.specs.Prelude.{ℕ, List, [], ◌∷◌, ◌++◌, codes, decimal, length, Bool, true, false, Option, Some, None}
use Rattle.sha2.specs.Sha256.{sha256}
use Rattle.hex.specs.Hex.{encode_lower}
use Rattle.serde_json.specs.Written.{comma_if}
use Rattle.json.specs.Print.{quoted}
use Rattle.namespace_id.specs.declared.cells.Cell.{Cell}
use Rattle.namespace_id.specs.declared.cells.Axis.{Axis}
use Rattle.namespace_id.specs.declared.namespaces.Namespace.{Namespace}
use Rattle.namespace_id.specs.declared.digests.Digest.{Digest}
use Rattle.namespace_id.specs.declared.shares.Share.{Share}
use Rattle.namespace_id.specs.Shares.{name_in}
use Rattle.data_header.specs.Headers.{Roots}
use Rattle.data_header.specs.DataRoots.{data_root_of}
use Rattle.share_split.specs.Blobs.{NamedBytes}
use Rattle.square_layout.specs.Blocks.{SquareShares, BlockParts}
use Rattle.axis_roots.specs.declared.message.messages.Message.{Message}
use Rattle.axis_roots.specs.declared.answers.NsEntry.{NsEntry}
use Rattle.axis_roots.specs.declared.answers.Found.{Found}
use Rattle.axis_roots.specs.declared.answers.Found.TheVariants.{Range, Absence}
use Rattle.blob_commit.specs.Proofs.{CommitParts, RootedParts}
use Rattle.frame_payloads.specs.declared.refusals.Refusal.{Refusal}
use Rattle.frame_payloads.specs.kinds.Block.{width_number}
use Rattle.frame_payloads.specs.kinds.Refusal.{reason_byte}
use Rattle.da_wire.specs.declared.frames.Frame.{Frame}
use Rattle.da_wire.specs.declared.frames.Frame.TheVariants as frames
use Rattle.da_wire.specs.declared.briefs.Brief.{Brief}
use Rattle.da_wire.specs.declared.briefs.Brief.TheVariants as briefs
use Rattle.frame_payloads.specs.declared.shown.EntryPlace.{EntryPlace}
use Rattle.frame_payloads.specs.declared.shown.FoundPlace.{FoundPlace}
use Rattle.frame_payloads.specs.declared.shown.FoundPlace.TheVariants as places
use Rattle.da_show.specs.Parts.{axis_word, name_word}

-- ---- strings

-- a text of which no byte is escaped
unfoldable pub in_quotes : List ℕ → List ℕ
in_quotes text = codes "\"" ++ (text ++ codes "\"")

-- the word of an axis as a string
unfoldable pub quoted_axis : Axis → List ℕ
quoted_axis axis = quoted (axis_word axis)

-- the digits of bytes as a string
unfoldable pub quoted_hex : List ℕ → List ℕ
quoted_hex bytes = quoted (encode_lower bytes)

-- the digits of a namespace as a string
unfoldable pub quoted_name : Namespace → List ℕ
quoted_name name = quoted (name_word name)

-- ---- lists

-- the text of what is left of a list, with a comma in front where something stands before
abbrev pub items_from : {A : Type 0} → (A → List ℕ) → Bool → List A → List ℕ
items_from text_of later [] = codes "]"
items_from text_of later (x ∷ xs) = comma_if later ++ (text_of x ++ items_from text_of true xs)

-- the text of a list
abbrev pub list_text : {A : Type 0} → (A → List ℕ) → List A → List ℕ
list_text text_of xs = codes "[" ++ items_from text_of false xs

-- ---- elements of lists

-- a root
abbrev pub root_text : Digest → List ℕ
root_text root = quoted_hex root.0

-- a share: its namespace
abbrev pub share_text : Share → List ℕ
share_text share = quoted_name (name_in share)

-- a range by its row, its start and how many shares it has
unfoldable pub range_text : ℕ → ℕ → ℕ → List ℕ
range_text row start shares =
    codes "{\"count\":" ++ (decimal shares ++ (codes ",\"row\":" ++ (decimal row
    ++ (codes ",\"start\":" ++ (decimal start ++ codes "}")))))

-- an absence by its row and its column
unfoldable pub absence_text : ℕ → ℕ → List ℕ
absence_text row pos =
    codes "{\"pos\":" ++ (decimal pos ++ (codes ",\"row\":" ++ (decimal row ++ codes "}")))

-- what is found in a row
abbrev pub found_text : ℕ → Found → List ℕ
found_text row (Range start shares nodes) = range_text row start (length shares)
found_text row (Absence pos leaf nodes) = absence_text row pos

-- an entry of a namespace answer
abbrev pub entry_text : NsEntry → List ℕ
entry_text entry = found_text entry.row entry.found

-- where something is found in a row
abbrev pub found_place_text : ℕ → FoundPlace → List ℕ
found_place_text row (places.Range start shares) = range_text row start shares
found_place_text row (places.Absence pos) = absence_text row pos

-- where an entry of a namespace answer found something
abbrev pub entry_place_text : EntryPlace → List ℕ
entry_place_text entry = found_place_text entry.row entry.found

-- a row and a column
unfoldable pub pair_text : ℕ → ℕ → List ℕ
pair_text row col = codes "[" ++ (decimal row ++ (codes "," ++ (decimal col ++ codes "]")))

-- a cell
abbrev pub cell_text : Cell → List ℕ
cell_text cell = pair_text cell.row cell.col

-- the cell of a sample
abbrev pub cell_of_text : Message → List ℕ
cell_of_text m = cell_text m.cell

-- the length of a unit
abbrev pub length_text : List ℕ → List ℕ
length_text unit = decimal (length unit)

-- a signer behind the namespace of its blob, if there is one
abbrev pub signer_text : Option (List ℕ) → List ℕ
signer_text None = []
signer_text (Some signer) = codes ",\"signer\":" ++ quoted_hex signer

-- a blob from its namespace on
unfoldable pub blob_end : Namespace → Option (List ℕ) → List ℕ
blob_end name signer = codes ",\"namespace\":" ++ (quoted_name name ++ (signer_text signer ++ codes "}"))

-- a blob
unfoldable pub blob_text : NamedBytes → List ℕ
blob_text blob = codes "{\"length\":" ++ (decimal (length blob.bytes) ++ blob_end blob.namespace blob.signer)

-- ---- the objects of each kind

-- a header from its kind on, by its data root and the roots of its rows
unfoldable pub header_end : List ℕ → List Digest → List ℕ
header_end root rows =
    codes ",\"kind\":\"header\",\"root\":" ++ (quoted_hex root ++ (codes ",\"rows\":" ++ (list_text root_text rows ++ codes "}")))

-- a header
unfoldable pub header_text : Roots → List ℕ
header_text header =
    codes "{\"cols\":" ++ (list_text root_text header.cols ++ (codes ",\"k\":" ++ (decimal header.k
    ++ header_end (data_root_of header) header.rows)))

-- a square from its kind on
unfoldable pub square_end : List Share → List ℕ
square_end shares = codes ",\"kind\":\"square\",\"namespaces\":" ++ (list_text share_text shares ++ codes "}")

-- a square
unfoldable pub square_text : SquareShares → List ℕ
square_text square = codes "{\"k\":" ++ (decimal square.k ++ square_end square.shares)

-- an axis and a column, at the front of an object
unfoldable pub place_front : Axis → ℕ → List ℕ
place_front axis col = codes "{\"axis\":" ++ (quoted_axis axis ++ (codes ",\"col\":" ++ decimal col))

-- a row and the hash of a share, at the end of an object
unfoldable pub share_end : ℕ → Share → List ℕ
share_end row share =
    codes ",\"row\":" ++ (decimal row ++ (codes ",\"share\":" ++ (quoted_hex (sha256 share.0) ++ codes "}")))

-- a sample from its kind on
unfoldable pub message_end : ℕ → ℕ → Share → List ℕ
message_end nodes row share = codes ",\"kind\":\"message\",\"nodes\":" ++ (decimal nodes ++ share_end row share)

-- a sample
unfoldable pub message_text : Message → List ℕ
message_text m = place_front m.axis m.cell.col ++ message_end (length m.path) m.cell.row m.share

-- a namespace answer from its kind on
unfoldable pub names_end : Namespace → List ℕ
names_end name = codes ",\"kind\":\"namespace\",\"namespace\":" ++ (quoted_name name ++ codes "}")

-- a namespace answer
unfoldable pub names_text : Namespace → List NsEntry → List ℕ
names_text name entries = codes "{\"entries\":" ++ (list_text entry_text entries ++ names_end name)

-- a namespace answer, by where its entries found something
unfoldable pub places_text : Namespace → List EntryPlace → List ℕ
places_text name entries = codes "{\"entries\":" ++ (list_text entry_place_text entries ++ names_end name)

-- a fraud claim from its index on
unfoldable pub claim_end : ℕ → List ℕ
claim_end index = codes ",\"index\":" ++ (decimal index ++ codes ",\"kind\":\"fraud\"}")

-- a fraud claim
unfoldable pub claim_text : Axis → List Message → ℕ → List ℕ
claim_text axis cells index =
    codes "{\"axis\":\"" ++ (axis_word axis ++ (codes "\",\"cells\":" ++ (list_text cell_of_text cells ++ claim_end index)))

-- missing cells
unfoldable pub missing_text : List Cell → ℕ → List ℕ
missing_text cells k =
    codes "{\"cells\":" ++ (list_text cell_text cells ++ (codes ",\"k\":" ++ (decimal k ++ codes ",\"kind\":\"missing\"}")))

-- a collision, by its strings
unfoldable pub clash_text : List ℕ → List ℕ → List ℕ
clash_text left right =
    codes "{\"kind\":\"clash\",\"left\":" ++ (quoted_hex left ++ (codes ",\"right\":" ++ (quoted_hex right ++ codes "}")))

-- a request for a sample
unfoldable pub sample_text : Cell → Axis → List ℕ
sample_text cell axis =
    place_front axis cell.col ++ (codes ",\"kind\":\"sample\",\"row\":" ++ (decimal cell.row ++ codes "}"))

-- a request for the shares of a namespace
unfoldable pub request_text : Namespace → List ℕ
request_text name = codes "{\"kind\":\"request\",\"namespace\":" ++ (quoted_name name ++ codes "}")

-- a block from its units on
unfoldable pub units_end : List (List ℕ) → ℕ → List ℕ
units_end units width =
    codes ",\"units\":" ++ (list_text length_text units ++ (codes ",\"width\":" ++ (decimal width ++ codes "}")))

-- a block from its kind on
unfoldable pub block_end : List (List ℕ) → List (List ℕ) → ℕ → List ℕ
block_end pay units width = codes ",\"kind\":\"block\",\"pay\":" ++ (list_text length_text pay ++ units_end units width)

-- a block
unfoldable pub block_text : BlockParts → List ℕ
block_text block =
    codes "{\"blobs\":" ++ (list_text blob_text block.blobs
    ++ block_end block.pay_units block.units (width_number block.width))

-- a commitment proof from its kind on
unfoldable pub commit_end : ℕ → ℕ → List ℕ
commit_end rows start =
    codes ",\"kind\":\"commit\",\"rows\":" ++ (decimal rows ++ (codes ",\"start\":" ++ (decimal start ++ codes "}")))

-- a commitment proof from its count on
unfoldable pub commit_counts : ℕ → ℕ → ℕ → ℕ → List ℕ
commit_counts count k rows start =
    codes ",\"count\":" ++ (decimal count ++ (codes ",\"k\":" ++ (decimal k ++ commit_end rows start)))

-- a commitment proof
unfoldable pub commit_text : CommitParts → List ℕ
commit_text proof =
    codes "{\"commitment\":" ++ (quoted_hex proof.commitment
    ++ commit_counts proof.count proof.k (length proof.rows) proof.start)

-- a root proof from its kind on
unfoldable pub rooted_end : Digest → ℕ → Share → List ℕ
rooted_end root row share = codes ",\"kind\":\"rooted\",\"root\":" ++ (root_text root ++ share_end row share)

-- a root proof
unfoldable pub rooted_text : RootedParts → List ℕ
rooted_text proof =
    place_front proof.message.axis proof.message.cell.col ++ (codes ",\"k\":" ++ (decimal proof.k
    ++ rooted_end proof.root proof.message.cell.row proof.message.share))

-- transactions
unfoldable pub transactions_text : List (List ℕ) → List ℕ
transactions_text units =
    codes "{\"kind\":\"transactions\",\"lengths\":" ++ (list_text length_text units ++ codes "}")

-- a refusal
unfoldable pub refusal_text : Refusal → List ℕ
refusal_text refusal =
    codes "{\"kind\":\"refusal\",\"number\":" ++ (decimal refusal.number
    ++ (codes ",\"reason\":" ++ (decimal (reason_byte refusal.reason) ++ codes "}")))

-- a state
abbrev pub state_text : List ℕ
state_text = codes "{\"kind\":\"state\"}"

-- ---- the text

-- the text of a frame's object
abbrev pub frame_text : Frame → List ℕ
frame_text (frames.Header header) = header_text header
frame_text (frames.Square square) = square_text square
frame_text (frames.Message message) = message_text message
frame_text (frames.Names name answer) = names_text name answer
frame_text (frames.Fraud claim) = claim_text claim.axis claim.cells claim.index
frame_text (frames.Missing cells) = missing_text cells.list cells.k
frame_text (frames.Clash clash) = clash_text clash.left clash.right
frame_text (frames.Sample cell axis) = sample_text cell axis
frame_text (frames.Request name) = request_text name
frame_text (frames.Block block) = block_text block
frame_text (frames.Commit proof) = commit_text proof
frame_text (frames.Rooted proof) = rooted_text proof
frame_text (frames.Transactions units) = transactions_text units
frame_text (frames.Refusal refusal) = refusal_text refusal
frame_text frames.State = state_text

-- the text of the object of what is brief of a frame
abbrev pub brief_json : Brief → List ℕ
brief_json (briefs.Names name found) = places_text name found
brief_json (briefs.Fraud claim) = claim_text claim.axis claim.cells claim.index
brief_json (briefs.Missing cells) = missing_text cells.list cells.k
brief_json (briefs.Sample cell axis) = sample_text cell axis
brief_json (briefs.Request name) = request_text name
brief_json (briefs.Block block) = block_text block
brief_json (briefs.Transactions units) = transactions_text units
brief_json (briefs.Refusal refusal) = refusal_text refusal
brief_json briefs.State = state_text
