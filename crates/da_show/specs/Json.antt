-- The JSON of a frame (docs/FORMATS.md, "JSON of frames").
use Rattle.std.specs.Prelude.{ℕ, List, [], ◌∷◌, codes, length, map, Option, Some, None}
use Rattle.hex.specs.Hex.{encode_lower}
use Rattle.serde_json.specs.Data.{Data, number, string, array, object, Members, no_members, member, unsigned}
use Rattle.serde_json.specs.View.{items_of}
use Rattle.serde_json.specs.Written.{compact_text}
use Rattle.namespace_id.specs.declared.cells.Cell.{Cell}
use Rattle.namespace_id.specs.declared.cells.Axis.{Axis}
use Rattle.namespace_id.specs.declared.namespaces.Namespace.{Namespace}
use Rattle.namespace_id.specs.declared.digests.Digest.{Digest}
use Rattle.namespace_id.specs.declared.shares.Share.{Share}
use Rattle.namespace_id.specs.Cells.{CellList}
use Rattle.data_header.specs.Headers.{Roots}
use Rattle.data_header.specs.DataRoots.{data_root_of}
use Rattle.share_split.specs.Blobs.{NamedBytes}
use Rattle.square_layout.specs.Blocks.{SquareShares, BlockParts}
use Rattle.axis_roots.specs.declared.message.messages.Message.{Message}
use Rattle.axis_roots.specs.declared.answers.NsEntry.{NsEntry}
use Rattle.axis_roots.specs.declared.answers.Found.{Found}
use Rattle.axis_roots.specs.declared.answers.Found.TheVariants.{Range, Absence}
use Rattle.axis_roots.specs.Claims.{ClaimParts}
use Rattle.hash_clash.specs.Collisions.{Strings}
use Rattle.blob_commit.specs.Proofs.{CommitParts, RootedParts}
use Rattle.frame_payloads.specs.declared.refusals.Refusal.{Refusal}
use Rattle.frame_payloads.specs.kinds.Block.{width_number}
use Rattle.frame_payloads.specs.kinds.Refusal.{reason_byte}
use Rattle.da_wire.specs.declared.frames.Frame.{Frame}
use Rattle.da_wire.specs.declared.frames.Frame.TheVariants as frames
use Rattle.da_show.specs.Parts.{axis_word, name_word, digest_word, share_name_word, share_hash_word}

-- ---- values

-- a number
abbrev pub count : ℕ → Data
count n = number (unsigned n)

-- the list of what each element of a list shows
abbrev pub data_list : {A : Type 0} → (A → Data) → List A → Data
data_list shown xs = array (items_of (map shown xs))

-- an object's members: keys with their values
abbrev pub members_of : List (List ℕ × Data) → Members
members_of [] = no_members
members_of (entry ∷ entries) = member entry.0 entry.1 (members_of entries)

-- an object, its keys in ascending order of bytes
abbrev pub object_of : List (List ℕ × Data) → Data
object_of entries = object (members_of entries)

-- ---- the objects of each kind, with keys in ascending order of bytes

-- a root
abbrev pub root_json : Digest → Data
root_json root = string (digest_word root)

-- a header: its data root and its roots
abbrev pub header_json : Roots → Data
header_json header = object_of (
    (codes "cols", data_list root_json header.cols)
    ∷ (codes "k", count header.k) ∷ (codes "kind", string (codes "header"))
    ∷ (codes "root", string (encode_lower (data_root_of header)))
    ∷ (codes "rows", data_list root_json header.rows) ∷ [])

-- a share: its namespace
abbrev pub share_json : Share → Data
share_json share = string (share_name_word share)

-- a square: the namespaces of its shares
abbrev pub square_json : SquareShares → Data
square_json square = object_of (
    (codes "k", count square.k) ∷ (codes "kind", string (codes "square"))
    ∷ (codes "namespaces", data_list share_json square.shares) ∷ [])

-- a sample, with the hash of its share
abbrev pub message_json : Message → Data
message_json m = object_of (
    (codes "axis", string (axis_word m.axis)) ∷ (codes "col", count m.cell.col)
    ∷ (codes "kind", string (codes "message")) ∷ (codes "nodes", count (length m.path))
    ∷ (codes "row", count m.cell.row) ∷ (codes "share", string (share_hash_word m.share)) ∷ [])

-- what is found in this row
abbrev pub found_json : ℕ → Found → Data
found_json row (Range start shares nodes) =
    object_of ((codes "count", count (length shares)) ∷ (codes "row", count row) ∷ (codes "start", count start) ∷ [])
found_json row (Absence pos leaf nodes) = object_of ((codes "pos", count pos) ∷ (codes "row", count row) ∷ [])

-- an entry of a namespace answer
abbrev pub entry_json : NsEntry → Data
entry_json entry = found_json entry.row entry.found

-- a namespace answer
abbrev pub names_json : Namespace → List NsEntry → Data
names_json name entries = object_of (
    (codes "entries", data_list entry_json entries) ∷ (codes "kind", string (codes "namespace"))
    ∷ (codes "namespace", string (name_word name)) ∷ [])

-- a cell: its row and its column
abbrev pub cell_json : Cell → Data
cell_json cell = array (items_of (count cell.row ∷ count cell.col ∷ []))

-- the cell of a sample
abbrev pub cell_of_json : Message → Data
cell_of_json m = cell_json m.cell

-- a fraud claim, with the cells of its samples
abbrev pub claim_json : ClaimParts → Data
claim_json claim = object_of (
    (codes "axis", string (axis_word claim.axis)) ∷ (codes "cells", data_list cell_of_json claim.cells)
    ∷ (codes "index", count claim.index) ∷ (codes "kind", string (codes "fraud")) ∷ [])

-- missing cells
abbrev pub missing_json : CellList → Data
missing_json cells = object_of (
    (codes "cells", data_list cell_json cells.list) ∷ (codes "k", count cells.k)
    ∷ (codes "kind", string (codes "missing")) ∷ [])

-- a collision: its two strings
abbrev pub clash_json : Strings → Data
clash_json clash = object_of (
    (codes "kind", string (codes "clash")) ∷ (codes "left", string (encode_lower clash.left))
    ∷ (codes "right", string (encode_lower clash.right)) ∷ [])

-- a request for a sample
abbrev pub sample_json : Cell → Axis → Data
sample_json cell axis = object_of (
    (codes "axis", string (axis_word axis)) ∷ (codes "col", count cell.col) ∷ (codes "kind", string (codes "sample"))
    ∷ (codes "row", count cell.row) ∷ [])

-- a request for the shares of a namespace
abbrev pub request_json : Namespace → Data
request_json name =
    object_of ((codes "kind", string (codes "request")) ∷ (codes "namespace", string (name_word name)) ∷ [])

-- a unit: its length
abbrev pub length_json : List ℕ → Data
length_json unit = count (length unit)

-- a signer, if there is one
abbrev pub signer_json : Option (List ℕ) → List (List ℕ × Data)
signer_json None = []
signer_json (Some signer) = (codes "signer", string (encode_lower signer)) ∷ []

-- a blob: its length, its namespace and its signer
abbrev pub blob_json : NamedBytes → Data
blob_json blob = object_of (
    (codes "length", count (length blob.bytes)) ∷ (codes "namespace", string (name_word blob.namespace))
    ∷ signer_json blob.signer)

-- a block: what it asks for, and the lengths of what is in it
abbrev pub block_json : BlockParts → Data
block_json block = object_of (
    (codes "blobs", data_list blob_json block.blobs) ∷ (codes "kind", string (codes "block"))
    ∷ (codes "pay", data_list length_json block.pay_units)
    ∷ (codes "units", data_list length_json block.units)
    ∷ (codes "width", count (width_number block.width)) ∷ [])

-- a commitment proof: its range, its commitment, and how many rows it has
abbrev pub commit_json : CommitParts → Data
commit_json proof = object_of (
    (codes "commitment", string (encode_lower proof.commitment)) ∷ (codes "count", count proof.count)
    ∷ (codes "k", count proof.k) ∷ (codes "kind", string (codes "commit"))
    ∷ (codes "rows", count (length proof.rows)) ∷ (codes "start", count proof.start) ∷ [])

-- a root proof: its sample, with the hash of its share, and the root of its axis
abbrev pub rooted_json : RootedParts → Data
rooted_json proof = object_of (
    (codes "axis", string (axis_word proof.message.axis)) ∷ (codes "col", count proof.message.cell.col)
    ∷ (codes "k", count proof.k) ∷ (codes "kind", string (codes "rooted"))
    ∷ (codes "root", string (digest_word proof.root)) ∷ (codes "row", count proof.message.cell.row)
    ∷ (codes "share", string (share_hash_word proof.message.share)) ∷ [])

-- transactions: their lengths
abbrev pub transactions_json : List (List ℕ) → Data
transactions_json units = object_of (
    (codes "kind", string (codes "transactions")) ∷ (codes "lengths", data_list length_json units) ∷ [])

-- a refusal: the number of the refused frame, and its reason
abbrev pub refusal_json : Refusal → Data
refusal_json refusal = object_of (
    (codes "kind", string (codes "refusal")) ∷ (codes "number", count refusal.number)
    ∷ (codes "reason", count (reason_byte refusal.reason)) ∷ [])

-- a state
abbrev pub state_json : Data
state_json = object_of ((codes "kind", string (codes "state")) ∷ [])

-- ---- the JSON

-- the value of a frame
abbrev pub json_of : Frame → Data
json_of (frames.Header header) = header_json header
json_of (frames.Square square) = square_json square
json_of (frames.Message message) = message_json message
json_of (frames.Names name answer) = names_json name answer
json_of (frames.Fraud claim) = claim_json claim
json_of (frames.Missing cells) = missing_json cells
json_of (frames.Clash clash) = clash_json clash
json_of (frames.Sample cell axis) = sample_json cell axis
json_of (frames.Request name) = request_json name
json_of (frames.Block block) = block_json block
json_of (frames.Commit proof) = commit_json proof
json_of (frames.Rooted proof) = rooted_json proof
json_of (frames.Transactions units) = transactions_json units
json_of (frames.Refusal refusal) = refusal_json refusal
json_of frames.State = state_json

-- the text of it, without a space and on one line
abbrev pub json_text : Frame → List ℕ
json_text frame = compact_text (json_of frame)
