-- sample-id, namespace-id: identifiers of a height, and the requests that they are, which don't say the height.
use Rattle.std.specs.Prelude.{ℕ, List, [], ◌∷◌, Some, None, Result}
use Rattle.std.specs.declared.option.Option.{Option}
use Rattle.namespace_id.specs.declared.cells.Axis.TheVariants.{Row}
use Rattle.namespace_id.specs.declared.cells.Cell.{Cell}
use Rattle.namespace_id.specs.declared.namespaces.Namespace as names
use Rattle.celestia_pb.specs.Ids.{sample_id_text, namespace_id_text, sample_id_value, namespace_id_value}
use Rattle.da_wire.specs.declared.frames.Frame.{Frame}
use Rattle.da_wire.specs.declared.frames.Frame.TheVariants.{Sample, Request}
use Rattle.da_wire.specs.Spelling.{sample_kind, request_kind}
use Rattle.da_wire.specs.Reading.{only_of}
use Rattle.da_status.specs.Outcome.{Relation}
use Rattle.da_files.specs.Frames.{single_file}
use Rattle.da_files.specs.Requests.{namespace_of}
use Rattle.da_exchanging.specs.Made.{Frames, Texts}

-- the cell whose sample a frame asks for, whatever the axis
abbrev pub cell_of : Frame → Option Cell
cell_of (Sample cell axis) = Some cell
cell_of frame = None

-- the cell whose sample the one frame asks for that a file is, or where it stops being a frame of such a request
abbrev pub asked_cell_in : List ℕ → Result Cell ℕ
asked_cell_in bytes = single_file cell_of (only_of bytes (sample_kind ∷ []))

-- the namespace that the one frame asks for that a file is
abbrev pub asked_name_in : List ℕ → Result names.Namespace ℕ
asked_name_in bytes = single_file namespace_of (only_of bytes (request_kind ∷ []))

-- the request for the sample of a cell along its row
abbrev pub row_request : Cell → Frame
row_request cell = Sample cell Row

-- what `import sample-id` answers to a FILE that is an identifier of this height: the request along the row
abbrev pub ImportSampleIdOf : ℕ → List (List ℕ) → Relation
ImportSampleIdOf height = Frames (sample_id_value height) row_request

-- what `export sample-id` answers to a FILE that is a request for a sample: its identifier at this height
abbrev pub ExportSampleIdOf : ℕ → List (List ℕ) → Relation
ExportSampleIdOf height = Texts asked_cell_in (sample_id_text height)

-- what `import namespace-id` answers to a FILE that is an identifier of this height: the request
abbrev pub ImportNamespaceIdOf : ℕ → List (List ℕ) → Relation
ImportNamespaceIdOf height = Frames (namespace_id_value height) Request

-- what `export namespace-id` answers to a FILE that is a request for a namespace: its identifier at this height
abbrev pub ExportNamespaceIdOf : ℕ → List (List ℕ) → Relation
ExportNamespaceIdOf height = Texts asked_name_in (namespace_id_text height)
