-- wanted MISSING AXIS: the requests for missing cells, along an axis.
use Rattle.std.specs.Prelude.{ℕ, List, [], ◌∷◌, map, Result}
use Rattle.namespace_id.specs.declared.cells.Axis.{Axis}
use Rattle.namespace_id.specs.declared.cells.Cell.{Cell}
use Rattle.namespace_id.specs.Cells.{CellList}
use Rattle.da_wire.specs.declared.frames.Frame.TheVariants.{Sample}
use Rattle.da_wire.specs.Spelling.{missing_kind}
use Rattle.da_wire.specs.Reading.{only_of}
use Rattle.da_wire.specs.Single.{missing_of}
use Rattle.da_wire.specs.Values.{values_bytes}
use Rattle.da_status.specs.declared.status.Status.TheVariants.{Done}
use Rattle.da_status.specs.Outcome.{Relation}
use Rattle.da_files.specs.Contents.{file_of}
use Rattle.da_files.specs.Frames.{single_file, WritesText}
use Rattle.da_files.specs.Forms.{Over}

-- the missing cells that a file is, or where it stops being a frame of them
abbrev pub missing_in : List ℕ → Result CellList ℕ
missing_in bytes = single_file missing_of (only_of bytes (missing_kind ∷ []))

-- the requests for the samples of cells along an axis, in their order
abbrev pub requests_bytes : Axis → List Cell → List ℕ
requests_bytes axis cells = values_bytes (map (λ cell. Sample cell axis) cells)

-- the requests for missing cells along an axis are written
abbrev pub Wants : Axis → CellList → Relation
Wants axis cells = WritesText Done (requests_bytes axis cells.list)

-- MISSING, the one file of wanted
abbrev pub missing_file : List (List ℕ) → List ℕ
missing_file files = file_of files 0

-- what wanted answers to a MISSING that is missing cells
abbrev pub WantedOf : Axis → List (List ℕ) → Relation
WantedOf axis files = Over (missing_in (missing_file files)) (Wants axis)
