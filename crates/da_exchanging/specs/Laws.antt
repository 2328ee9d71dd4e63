-- What is imported is exported as the bytes that it came from, and what is exported is imported as the frame that it came from.
use Rattle.std.specs.Prelude.{◌≡◌, ℕ, ◌*◌, ◌<◌, ◌^◌, List, [], ◌∷◌, length, map, Some, Ok}
use Rattle.namespace_id.specs.Bytes.{AreBytes}
use Rattle.namespace_id.specs.declared.cells.Axis.{Axis}
use Rattle.namespace_id.specs.declared.cells.Axis.TheVariants.{Row}
use Rattle.namespace_id.specs.declared.cells.Cell.{Cell}
use Rattle.namespace_id.specs.declared.namespaces.Namespace.{Namespace}
use Rattle.namespace_id.specs.declared.shares.Share.{Share}
use Rattle.namespace_id.specs.Cells.{cell_in}
use Rattle.namespace_id.specs.Lists.{ascending}
use Rattle.namespace_id.specs.Names.{IsNamespace}
use Rattle.namespace_id.specs.Sizes.{hash_size}
use Rattle.data_header.specs.DataRoots.{data_root_of}
use Rattle.data_header.specs.Headers.{Roots}
use Rattle.axis_roots.specs.Claims.{ClaimParts}
use Rattle.axis_roots.specs.Grids.{axis_shares, Extends}
use Rattle.axis_roots.specs.Trees.{message_at}
use Rattle.axis_roots.specs.declared.answers.NsEntry.{NsEntry}
use Rattle.axis_roots.specs.declared.message.messages.Message.{Message}
use Rattle.square_serve.specs.Answers.{wanted_rows}
use Rattle.celestia_pb.specs.declared.extended.Extended.{Extended}
use Rattle.celestia_pb.specs.Befp.{befp_text}
use Rattle.celestia_pb.specs.BefpLaws.{ClaimHasMessage}
use Rattle.celestia_pb.specs.ExtendedLaws.{IsExtended}
use Rattle.celestia_pb.specs.HalfRows.{HalfParts, half_row_value}
use Rattle.celestia_pb.specs.NamespaceData.{rows_of}
use Rattle.half_rows.specs.Rows.{width_of, HasHalf}
use Rattle.da_wire.specs.declared.frames.Frame.{Frame}
use Rattle.da_wire.specs.declared.frames.Frame.TheVariants as frames
use Rattle.da_wire.specs.Spelling.{spelling, sample_kind}
use Rattle.da_wire.specs.Reading.{only_of}
use Rattle.da_status.specs.declared.status.Status.TheVariants.{Done}
use Rattle.da_status.specs.Judging.{Judged}
use Rattle.da_files.specs.Frames.{header_in, message_in}
use Rattle.da_words.specs.declared.forms.ImportForm.{ImportForm}
use Rattle.da_words.specs.declared.forms.ImportForm.TheVariants as from
use Rattle.da_words.specs.declared.forms.ExportForm.{ExportForm}
use Rattle.da_words.specs.declared.forms.ExportForm.TheVariants as to
use Rattle.da_exchanging.specs.Answers.{ns_answer_in}
use Rattle.da_exchanging.specs.Ids.{row_request}
use Rattle.da_exchanging.specs.Row.{AreSpelled}
use Rattle.da_exchanging.specs.Forms.{import_judged, ImportOf, export_judged, ExportOf}

-- `import` of this form makes this text of these bytes
abbrev pub Imports : ImportForm → List ℕ → List ℕ → Type 0
Imports form bytes text = Judged (import_judged form (bytes ∷ [])) (ImportOf form (bytes ∷ [])) text Done

-- `export` of this form makes these bytes of this text
abbrev pub Exports : ExportForm → List ℕ → List ℕ → Type 0
Exports form text bytes = Judged (export_judged form (text ∷ [])) (ExportOf form (text ∷ [])) bytes Done

-- what is imported is exported as the bytes that it came from
abbrev pub IsExportedBack : ImportForm → ExportForm → Type 0
IsExportedBack import export = (bytes text : List ℕ) → AreBytes bytes → Imports import bytes text → Exports export text bytes

-- what is exported is imported as the text that it came from
abbrev pub IsImportedBack : ImportForm → ExportForm → Type 0
IsImportedBack import export = (bytes text : List ℕ) → AreBytes text → Exports export text bytes → Imports import bytes text

-- what is exported of a sample is imported as the sample of its cell
abbrev pub SampleIsImportedBack : Type 0
SampleIsImportedBack = (bytes text : List ℕ) (m : Message) → AreBytes text → message_in text ≡ Ok m → Exports to.Sample text bytes
    → Imports (from.Sample m.cell) bytes text

-- what is exported of an answer is imported as the answer for its namespace, of the row of its entry
abbrev pub RowDataIsImportedBack : Type 0
RowDataIsImportedBack = (bytes text : List ℕ) (name : Namespace) (entry : NsEntry) → AreBytes text → ns_answer_in text ≡ Ok (name, entry ∷ [])
    → Exports to.RowData text bytes → Imports (from.RowData entry.row name) bytes text

-- the message of a claim whose proofs pass over the parity namespace is exported of the frame that it is imported as
abbrev pub BefpIsExportedBack : Type 0
BefpIsExportedBack = (k : ℕ) (hash : List ℕ) (height : ℕ) (claim : ClaimParts) (text : List ℕ) → length hash ≡ hash_size → height < 2 ^ 64
    → ClaimHasMessage k claim → Imports (from.Befp hash height) (befp_text 1 k hash height claim) text
    → Exports (to.Befp k hash height) text (befp_text 1 k hash height claim)

-- what is exported of a claim is imported as the claim
abbrev pub BefpIsImportedBack : Type 0
BefpIsImportedBack = (k : ℕ) (hash : List ℕ) (height : ℕ) (bytes text : List ℕ) → length hash ≡ hash_size → height < 2 ^ 64 → AreBytes text
    → Exports (to.Befp k hash height) text bytes → Imports (from.Befp hash height) bytes text

-- what is exported of a request for a sample is imported as the request for the sample of the same cell along its row
abbrev pub SampleIdIsImportedBack : Type 0
SampleIdIsImportedBack = (height : ℕ) (bytes text again : List ℕ) (cell : Cell) (axis : Axis) → AreBytes text
    → only_of text (sample_kind ∷ []) ≡ Ok (frames.Sample cell axis) → spelling (row_request cell) ≡ Some again
    → Exports (to.SampleId height) text bytes → Imports (from.SampleId height) bytes again

-- ---- under a header

-- `import namespace-data` of a namespace makes this text of these bytes under this HEADER
abbrev pub ImportsUnder : Namespace → List ℕ → List ℕ → List ℕ → Type 0
ImportsUnder name header bytes text =
    Judged (import_judged (from.NamespaceData name) (bytes ∷ header ∷ [])) (ImportOf (from.NamespaceData name) (bytes ∷ header ∷ [])) text Done

-- a stream that is imported under a header is exported as the bytes that it came from
abbrev pub NamespaceDataIsExportedBack : Type 0
NamespaceDataIsExportedBack = (name : Namespace) (header bytes text : List ℕ) → IsNamespace name → AreBytes header → AreBytes bytes
    → ImportsUnder name header bytes text → Exports to.NamespaceData text bytes

-- what is exported of an answer with an entry for just the rows of a header that may hold the namespace is imported under it as the answer
abbrev pub NamespaceDataIsImportedBack : Type 0
NamespaceDataIsImportedBack = (name : Namespace) (answer : List NsEntry) (roots : Roots) (header bytes text : List ℕ) → AreBytes text
    → ns_answer_in text ≡ Ok (name, answer) → header_in header ≡ Ok roots → rows_of answer ≡ wanted_rows roots name
    → Exports to.NamespaceData text bytes → ImportsUnder name header bytes text

-- ---- one way

-- an extended header is imported as the message of its axis roots is, of which its data hash is the data root
abbrev pub HeaderIsOfDah : Type 0
HeaderIsOfDah = (bytes text : List ℕ) → Imports from.Header bytes text
    → (extended : Extended) × (is : IsExtended bytes extended) × (data_root_of extended.roots ≡ extended.data_hash) × Imports from.Dah is.dah text

-- the frames of the samples along a row of the extension of a square, from column 0
abbrev pub square_frames : ℕ → List Share → ℕ → List Frame
square_frames k grid row = map (λ (col : ℕ). frames.Message (message_at k grid (cell_in row col) Row)) (ascending 0 (2 * k))

-- half a row of the extension of a square is imported as the extension's samples of all cells along the row
abbrev pub RowIsOfSquare : Type 0
RowIsOfSquare = (row : ℕ) (half : HalfParts) (square grid : List Share) (bytes text : List ℕ) → AreBytes bytes → half_row_value bytes ≡ Ok half
    → Extends (width_of half) square grid → HasHalf half (axis_shares (width_of half) grid Row row) → Imports (from.Row row) bytes text
    → AreSpelled (square_frames (width_of half) grid row) text
