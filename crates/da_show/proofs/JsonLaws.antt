-- The texts that are put together are those of the objects.
use Rattle.std.proofs.Common.{◌≡◌, ◌∙◌, ℕ, Bool, true, false, List, [], ◌∷◌, ◌++◌, map, codes, decimal, length, Option, Some, None, refl, sym, ap, ap₂}
use Rattle.std.proofs.lemmas.Option.{same_Some}
use Rattle.json.specs.Print.{escape_byte, quoted}
use Rattle.serde_json.specs.Data.{Data, string}
use Rattle.serde_json.specs.View.{items_of}
use Rattle.serde_json.specs.Written.{compact_text, comma_if, items_text}
use Rattle.namespace_id.specs.declared.cells.Axis.{Axis}
use Rattle.namespace_id.specs.declared.cells.Axis.TheVariants.{Row, Col}
use Rattle.namespace_id.specs.declared.cells.Cell.{Cell}
use Rattle.namespace_id.specs.declared.namespaces.Namespace.{Namespace}
use Rattle.namespace_id.specs.declared.digests.Digest.{Digest}
use Rattle.namespace_id.specs.declared.shares.Share.{Share}
use Rattle.namespace_id.specs.Cells.{CellList}
use Rattle.data_header.specs.Headers.{Roots}
use Rattle.data_header.specs.DataRoots.{data_root_of}
use Rattle.share_split.specs.Blobs.{NamedBytes}
use Rattle.square_layout.specs.Blocks.{SquareShares, BlockParts}
use Rattle.axis_roots.specs.declared.message.messages.Message.{Message}
use Rattle.axis_roots.specs.declared.answers.NsEntry.{NsEntry}
use Rattle.axis_roots.specs.declared.answers.Found.{Found}
use Rattle.axis_roots.specs.declared.answers.Found.TheVariants.{Range, Absence}
use Rattle.axis_roots.specs.Claims.{ClaimParts}
use Rattle.hash_clash.specs.Collisions.{Strings}
use Rattle.blob_commit.specs.Proofs.{CommitParts, RootedParts}
use Rattle.frame_payloads.specs.declared.refusals.Refusal.{Refusal}
use Rattle.frame_payloads.specs.kinds.Block.{width_number}
use Rattle.frame_payloads.specs.kinds.Names.{found_place, entry_place}
use Rattle.da_wire.specs.declared.frames.Frame.{Frame}
use Rattle.da_wire.specs.declared.frames.Frame.TheVariants as frames
use Rattle.da_wire.specs.declared.briefs.Brief.{Brief}
use Rattle.da_wire.specs.Briefs.{brief_of}
use Rattle.da_show.specs.Parts.{axis_word, name_word, digest_word, share_hash_word}
use Rattle.da_show.specs.Json.{count, data_list, object_of, root_json, header_json, share_json, square_json, message_json, found_json, entry_json, names_json, cell_json, cell_of_json, claim_json, missing_json, clash_json, sample_json, request_json, length_json, signer_json, blob_json, block_json, commit_json, rooted_json, transactions_json, refusal_json, state_json, json_text}
use Rattle.da_show.specs.JsonTexts.{quoted_axis, quoted_hex, quoted_name, items_from, list_text, root_text, share_text, range_text, absence_text, found_text, entry_text, found_place_text, entry_place_text, pair_text, cell_text, cell_of_text, length_text, signer_text, blob_end, blob_text, header_end, header_text, square_end, square_text, place_front, share_end, message_end, message_text, names_end, names_text, places_text, claim_end, claim_text, missing_text, clash_text, sample_text, request_text, units_end, block_end, block_text, commit_end, commit_counts, commit_text, rooted_end, rooted_text, transactions_text, refusal_text, state_text, frame_text, brief_json}

-- ---- lists

module _ {A B : Type 0} (turn : B → A) (text : A → List ℕ) (shown : B → Data) (same : (x : B) → text (turn x) ≡ compact_text (shown x)) where
  -- what is left of a list whose elements are turned
  turned_items : (later : Bool) (xs : List B) → items_from text later (map turn xs) ≡ items_text later (items_of (map shown xs))
  turned_items later [] = refl
  turned_items later (x ∷ xs) = ap₂ (λ (a b : List ℕ). comma_if later ++ (a ++ b)) (same x) (turned_items true xs)

  -- a list whose elements are turned
  turned_list : (xs : List B) → list_text text (map turn xs) ≡ compact_text (data_list shown xs)
  turned_list xs = ap (λ (l : List ℕ). 91 ∷ l) (turned_items false xs)

module _ {A : Type 0} (text : A → List ℕ) (shown : A → Data) (same : (x : A) → text x ≡ compact_text (shown x)) where
  -- what is left of a list
  items_are : (later : Bool) (xs : List A) → items_from text later xs ≡ items_text later (items_of (map shown xs))
  items_are later [] = refl
  items_are later (x ∷ xs) = ap₂ (λ (a b : List ℕ). comma_if later ++ (a ++ b)) (same x) (items_are true xs)

  -- a list
  list_is : (xs : List A) → list_text text xs ≡ compact_text (data_list shown xs)
  list_is xs = ap (λ (l : List ℕ). 91 ∷ l) (items_are false xs)

-- ---- headers and squares

-- roots
roots_are : (roots : List Digest) → list_text root_text roots ≡ compact_text (data_list root_json roots)
unfolding quoted_hex
roots_are roots = list_is root_text root_json (λ root. refl) roots

-- a header, by the texts of its roots
abbrev header_around : List ℕ → ℕ → List ℕ → List ℕ → List ℕ
header_around cols k root rows =
    codes "{\"cols\":" ++ (cols ++ (codes ",\"k\":" ++ (decimal k
    ++ (codes ",\"kind\":\"header\",\"root\":" ++ (root ++ (codes ",\"rows\":" ++ (rows ++ codes "}")))))))

-- a header
header_is : (header : Roots) → header_text header ≡ compact_text (header_json header)
unfolding header_text header_end quoted_hex escape_byte
header_is header =
    ap₂ (λ (cols rows : List ℕ). header_around cols header.k (quoted_hex (data_root_of header)) rows)
    (roots_are header.cols) (roots_are header.rows)

-- the namespaces of shares
shares_are : (shares : List Share) → list_text share_text shares ≡ compact_text (data_list share_json shares)
unfolding quoted_name
shares_are shares = list_is share_text share_json (λ share. refl) shares

-- a square
square_is : (square : SquareShares) → square_text square ≡ compact_text (square_json square)
unfolding square_text square_end escape_byte
square_is square =
    ap (λ (l : List ℕ). codes "{\"k\":" ++ (decimal square.k ++ (codes ",\"kind\":\"square\",\"namespaces\":" ++ (l ++ codes "}"))))
    (shares_are square.shares)

-- ---- samples

-- a sample, by its axis and what else is shown of it
message_object : (axis : Axis) (col nodes row : ℕ) (share : Share)
    → place_front axis col ++ message_end nodes row share
    ≡ compact_text (object_of (
    (codes "axis", string (axis_word axis)) ∷ (codes "col", count col) ∷ (codes "kind", string (codes "message"))
    ∷ (codes "nodes", count nodes) ∷ (codes "row", count row) ∷ (codes "share", string (share_hash_word share)) ∷ []))
unfolding place_front message_end share_end quoted_axis quoted_hex escape_byte
message_object Row col nodes row share = refl
message_object Col col nodes row share = refl

-- a sample
message_is : (m : Message) → message_text m ≡ compact_text (message_json m)
unfolding message_text
message_is m = message_object m.axis m.cell.col (length m.path) m.cell.row m.share

-- a root proof, by its axis and what else is shown of it
rooted_object : (axis : Axis) (col k : ℕ) (root : Digest) (row : ℕ) (share : Share)
    → place_front axis col ++ (codes ",\"k\":" ++ (decimal k ++ rooted_end root row share))
    ≡ compact_text (object_of (
    (codes "axis", string (axis_word axis)) ∷ (codes "col", count col) ∷ (codes "k", count k)
    ∷ (codes "kind", string (codes "rooted")) ∷ (codes "root", string (digest_word root)) ∷ (codes "row", count row)
    ∷ (codes "share", string (share_hash_word share)) ∷ []))
unfolding place_front rooted_end share_end quoted_axis quoted_hex escape_byte
rooted_object Row col k root row share = refl
rooted_object Col col k root row share = refl

-- a root proof
rooted_is : (proof : RootedParts) → rooted_text proof ≡ compact_text (rooted_json proof)
unfolding rooted_text
rooted_is proof =
    rooted_object proof.message.axis proof.message.cell.col proof.k proof.root proof.message.cell.row proof.message.share

-- a request for a sample
sample_is : (cell : Cell) (axis : Axis) → sample_text cell axis ≡ compact_text (sample_json cell axis)
unfolding sample_text place_front quoted_axis escape_byte
sample_is cell Row = refl
sample_is cell Col = refl

-- ---- cells

-- a cell
cell_is : (cell : Cell) → cell_text cell ≡ compact_text (cell_json cell)
unfolding pair_text
cell_is cell = refl

-- cells
cells_are : (cells : List Cell) → list_text cell_text cells ≡ compact_text (data_list cell_json cells)
cells_are cells = list_is cell_text cell_json cell_is cells

-- the cells of samples
message_cells_are : (messages : List Message) → list_text cell_of_text messages ≡ compact_text (data_list cell_of_json messages)
message_cells_are messages = list_is cell_of_text cell_of_json (λ m. cell_is m.cell) messages

-- a fraud claim, by the text of its cells
abbrev claim_around : Axis → List ℕ → ℕ → List ℕ
claim_around axis cells index =
    codes "{\"axis\":\"" ++ (axis_word axis ++ (codes "\",\"cells\":" ++ (cells
    ++ (codes ",\"index\":" ++ (decimal index ++ codes ",\"kind\":\"fraud\"}")))))

-- its object, by its axis
claim_object : (axis : Axis) (cells : List Message) (index : ℕ) (set : Option (List Digest))
    → claim_around axis (compact_text (data_list cell_of_json cells)) index
    ≡ compact_text (claim_json (record { axis = axis; index = index; cells = cells; set = set }))
unfolding escape_byte
claim_object Row cells index set = refl
claim_object Col cells index set = refl

-- a fraud claim
claim_is : (claim : ClaimParts) → claim_text claim.axis claim.cells claim.index ≡ compact_text (claim_json claim)
unfolding claim_text claim_end
claim_is claim =
    ap (λ (l : List ℕ). claim_around claim.axis l claim.index) (message_cells_are claim.cells)
    ∙ claim_object claim.axis claim.cells claim.index claim.set

-- missing cells
missing_is : (cells : CellList) → missing_text cells.list cells.k ≡ compact_text (missing_json cells)
unfolding missing_text escape_byte
missing_is cells =
    ap (λ (l : List ℕ). codes "{\"cells\":" ++ (l ++ (codes ",\"k\":" ++ (decimal cells.k ++ codes ",\"kind\":\"missing\"}"))))
    (cells_are cells.list)

-- ---- namespaces

-- what is found in a row
found_is : (row : ℕ) (found : Found) → found_text row found ≡ compact_text (found_json row found)
unfolding range_text absence_text escape_byte
found_is row (Range start shares nodes) = refl
found_is row (Absence pos leaf nodes) = refl

-- the entries of an answer
entries_are : (entries : List NsEntry) → list_text entry_text entries ≡ compact_text (data_list entry_json entries)
entries_are entries = list_is entry_text entry_json (λ entry. found_is entry.row entry.found) entries

-- what is found in a row, by where it is
found_place_is : (row : ℕ) (found : Found) → found_place_text row (found_place found) ≡ compact_text (found_json row found)
unfolding range_text absence_text escape_byte
found_place_is row (Range start shares nodes) = refl
found_place_is row (Absence pos leaf nodes) = refl

-- the entries of an answer, by where they found something
places_are : (entries : List NsEntry) → list_text entry_place_text (map entry_place entries) ≡ compact_text (data_list entry_json entries)
places_are entries =
    turned_list entry_place entry_place_text entry_json (λ entry. found_place_is entry.row entry.found) entries

-- an answer, by the text of its entries
abbrev names_around : List ℕ → Namespace → List ℕ
names_around entries name =
    codes "{\"entries\":" ++ (entries ++ (codes ",\"kind\":\"namespace\",\"namespace\":" ++ (quoted_name name ++ codes "}")))

-- a namespace answer
names_are : (name : Namespace) (entries : List NsEntry) → names_text name entries ≡ compact_text (names_json name entries)
unfolding names_text names_end quoted_name escape_byte
names_are name entries = ap (λ (l : List ℕ). names_around l name) (entries_are entries)

-- a namespace answer, by where its entries found something
names_at_are : (name : Namespace) (entries : List NsEntry) → places_text name (map entry_place entries) ≡ compact_text (names_json name entries)
unfolding places_text names_end quoted_name escape_byte
names_at_are name entries = ap (λ (l : List ℕ). names_around l name) (places_are entries)

-- a request for the shares of a namespace
request_is : (name : Namespace) → request_text name ≡ compact_text (request_json name)
unfolding request_text quoted_name escape_byte
request_is name = refl

-- ---- collisions and commitment proofs

-- a collision
clash_is : (clash : Strings) → clash_text clash.left clash.right ≡ compact_text (clash_json clash)
unfolding clash_text quoted_hex escape_byte
clash_is clash = refl

-- a commitment proof
commit_is : (proof : CommitParts) → commit_text proof ≡ compact_text (commit_json proof)
unfolding commit_text commit_counts commit_end quoted_hex escape_byte
commit_is proof = refl

-- ---- blocks

-- a blob, by its length, the digits of its namespace and its signer
blob_object : (size : ℕ) (name : List ℕ) (signer : Option (List ℕ))
    → codes "{\"length\":" ++ (decimal size ++ (codes ",\"namespace\":" ++ (quoted name ++ (signer_text signer ++ codes "}"))))
    ≡ compact_text (object_of ((codes "length", count size) ∷ (codes "namespace", string name) ∷ signer_json signer))
unfolding quoted_hex escape_byte
blob_object size name None = refl
blob_object size name (Some signer) = refl

-- a blob
blob_is : (blob : NamedBytes) → blob_text blob ≡ compact_text (blob_json blob)
unfolding blob_text blob_end quoted_name
blob_is blob = blob_object (length blob.bytes) (name_word blob.namespace) blob.signer

-- blobs
blobs_are : (blobs : List NamedBytes) → list_text blob_text blobs ≡ compact_text (data_list blob_json blobs)
blobs_are blobs = list_is blob_text blob_json blob_is blobs

-- the lengths of units
lengths_are : (units : List (List ℕ)) → list_text length_text units ≡ compact_text (data_list length_json units)
lengths_are units = list_is length_text length_json (λ unit. refl) units

-- a block, by the texts of its blobs, units of payments and units
abbrev block_around : List ℕ → List ℕ → List ℕ → ℕ → List ℕ
block_around blobs pay units width =
    codes "{\"blobs\":" ++ (blobs ++ (codes ",\"kind\":\"block\",\"pay\":" ++ (pay
    ++ (codes ",\"units\":" ++ (units ++ (codes ",\"width\":" ++ (decimal width ++ codes "}")))))))

-- a block
block_is : (block : BlockParts) → block_text block ≡ compact_text (block_json block)
unfolding block_text block_end units_end escape_byte
block_is block =
    let units : List ℕ = list_text length_text block.units in
    let blobs : List ℕ = compact_text (data_list blob_json block.blobs) in
    let pay : List ℕ = compact_text (data_list length_json block.pay_units) in
    let width : ℕ = width_number block.width in
    ap₂ (λ (a b : List ℕ). block_around a b units width) (blobs_are block.blobs) (lengths_are block.pay_units)
    ∙ ap (λ (l : List ℕ). block_around blobs pay l width) (lengths_are block.units)

-- transactions
transactions_are : (units : List (List ℕ)) → transactions_text units ≡ compact_text (transactions_json units)
unfolding transactions_text escape_byte
transactions_are units =
    ap (λ (l : List ℕ). codes "{\"kind\":\"transactions\",\"lengths\":" ++ (l ++ codes "}")) (lengths_are units)

-- ---- refusals and states

-- a refusal
refusal_is : (refusal : Refusal) → refusal_text refusal ≡ compact_text (refusal_json refusal)
unfolding refusal_text escape_byte
refusal_is refusal = refl

-- a state
state_is : state_text ≡ compact_text state_json
unfolding escape_byte
state_is = refl

-- ---- all kinds

-- the text of a frame is that of its object
pub frame_text_is : (frame : Frame) → frame_text frame ≡ json_text frame
frame_text_is (frames.Header header) = header_is header
frame_text_is (frames.Square square) = square_is square
frame_text_is (frames.Message message) = message_is message
frame_text_is (frames.Names name answer) = names_are name answer
frame_text_is (frames.Fraud claim) = claim_is claim
frame_text_is (frames.Missing cells) = missing_is cells
frame_text_is (frames.Clash clash) = clash_is clash
frame_text_is (frames.Sample cell axis) = sample_is cell axis
frame_text_is (frames.Request name) = request_is name
frame_text_is (frames.Block block) = block_is block
frame_text_is (frames.Commit proof) = commit_is proof
frame_text_is (frames.Rooted proof) = rooted_is proof
frame_text_is (frames.Transactions units) = transactions_are units
frame_text_is (frames.Refusal refusal) = refusal_is refusal
frame_text_is frames.State = state_is

-- the text of what is brief of a value is that of its object
pub brief_json_is : (value : Frame) (brief : Brief) → brief_of value ≡ Some brief → brief_json brief ≡ json_text value
brief_json_is (frames.Names name answer) brief e = ap brief_json (sym (same_Some _ _ e)) ∙ names_at_are name answer
brief_json_is (frames.Fraud claim) brief e = ap brief_json (sym (same_Some _ _ e)) ∙ claim_is claim
brief_json_is (frames.Missing cells) brief e = ap brief_json (sym (same_Some _ _ e)) ∙ missing_is cells
brief_json_is (frames.Sample cell axis) brief e = ap brief_json (sym (same_Some _ _ e)) ∙ sample_is cell axis
brief_json_is (frames.Request name) brief e = ap brief_json (sym (same_Some _ _ e)) ∙ request_is name
brief_json_is (frames.Block block) brief e = ap brief_json (sym (same_Some _ _ e)) ∙ block_is block
brief_json_is (frames.Transactions units) brief e = ap brief_json (sym (same_Some _ _ e)) ∙ transactions_are units
brief_json_is (frames.Refusal refusal) brief e = ap brief_json (sym (same_Some _ _ e)) ∙ refusal_is refusal
brief_json_is frames.State brief e = ap brief_json (sym (same_Some _ _ e)) ∙ state_is
brief_json_is (frames.Header header) brief e = absurd cc
brief_json_is (frames.Square square) brief e = absurd cc
brief_json_is (frames.Message message) brief e = absurd cc
brief_json_is (frames.Clash clash) brief e = absurd cc
brief_json_is (frames.Commit proof) brief e = absurd cc
brief_json_is (frames.Rooted proof) brief e = absurd cc
