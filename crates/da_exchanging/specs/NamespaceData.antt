-- namespace-data: what is found of a namespace in the rows of a header that may hold it as a stream of messages RowNamespaceData, which
-- says neither the namespace nor the rows, and its frame N, which does.
use Rattle.std.specs.Prelude.{ℕ, List, [], ◌∷◌, Some, None, Bool, true, false, Result, Ok, Err}
use Rattle.std.specs.declared.option.Option.{Option}
use Rattle.namespace_id.specs.declared.namespaces.Namespace as names
use Rattle.data_header.specs.Headers.{Roots}
use Rattle.axis_roots.specs.declared.answers.NsEntry.{NsEntry}
use Rattle.square_serve.specs.Answers.{wanted_rows}
use Rattle.celestia_pb.specs.NamespaceData.{namespace_data_text, has_stream, namespace_data_value}
use Rattle.da_wire.specs.declared.frames.Frame.{Frame}
use Rattle.da_wire.specs.declared.frames.Frame.TheVariants.{Names}
use Rattle.da_wire.specs.Spelling.{names_kind}
use Rattle.da_wire.specs.Reading.{only_of}
use Rattle.da_status.specs.declared.status.Asked.TheVariants.{Form}
use Rattle.da_status.specs.declared.status.Status.{Status}
use Rattle.da_status.specs.declared.status.Status.TheVariants.{Done, BadInput, BadRequest, NoMemory}
use Rattle.da_status.specs.Outcome.{Relation, Refuses}
use Rattle.da_files.specs.declared.frames.Unread.{Unread}
use Rattle.da_files.specs.declared.frames.Unread.TheVariants as unread
use Rattle.da_files.specs.Contents.{file_of}
use Rattle.da_files.specs.Frames.{header_in, single_file, error_of, Writes, WritesText}
use Rattle.da_files.specs.Forms.{Over}

-- the entries that bytes are of a namespace under a header: of the rows that may hold it
abbrev pub data_under : names.Namespace → Roots → List ℕ → Result (List NsEntry) ℕ
data_under name header bytes = namespace_data_value (wanted_rows header name) bytes

-- where FILE leaves its form, if it does, where HEADER was read: no FILE is judged under a HEADER that isn't one
abbrev pub bad_data : names.Namespace → Result Roots ℕ → List ℕ → Option ℕ
bad_data name (Ok header) bytes = error_of (data_under name header bytes)
bad_data name (Err at) bytes = None

-- of FILE and of HEADER where they leave their forms
abbrev pub namespace_data_judged : names.Namespace → List (List ℕ) → List (Option ℕ)
namespace_data_judged name files =
    bad_data name (header_in (file_of files 1)) (file_of files 0) ∷ error_of (header_in (file_of files 1)) ∷ []

-- the status of why HEADER isn't read as a header
abbrev pub header_refusal : Unread → Status
header_refusal (unread.BadForm at) = BadInput 1 at
header_refusal unread.NoMemory = NoMemory

-- what `import namespace-data` answers to a FILE that is a stream under HEADER: the frame of its entries
abbrev pub ImportNamespaceDataOf : names.Namespace → List (List ℕ) → Relation
ImportNamespaceDataOf name files =
    Over (header_in (file_of files 1)) (λ header. Over (data_under name header (file_of files 0)) (λ answer. Writes (Names name answer)))

-- the entries that a frame has
abbrev pub entries_of : Frame → Option (List NsEntry)
entries_of (Names name answer) = Some answer
entries_of frame = None

-- those of the one frame that a file is, or where it stops being a frame of such
abbrev pub entries_in : List ℕ → Result (List NsEntry) ℕ
entries_in bytes = single_file entries_of (only_of bytes (names_kind ∷ []))

-- the stream of entries that have one, or that they have none
abbrev pub StreamBy : Bool → List NsEntry → Relation
StreamBy true answer = WritesText Done (namespace_data_text answer)
StreamBy false answer = Refuses (BadRequest Form)

abbrev pub StreamOf : List NsEntry → Relation
StreamOf answer = StreamBy (has_stream answer) answer

-- what `export namespace-data` answers to a FILE that is what was found of a namespace
abbrev pub ExportNamespaceDataOf : List (List ℕ) → Relation
ExportNamespaceDataOf files = Over (entries_in (file_of files 0)) StreamOf
