-- row: a row by half of its shares as the message Row, which doesn't say which row it is, and the frames M of its samples, which do.
use Rattle.std.specs.Prelude.{◌≡◌, ℕ, ◌*◌, ◌++◌, ◌⊎◌, nat_lt, Bool, true, false, List, [], ◌∷◌, map, Some, None}
use Rattle.std.specs.declared.option.Option.{Option}
use Rattle.namespace_id.specs.declared.shares.Share.{Share}
use Rattle.namespace_id.specs.Lists.{ascending}
use Rattle.celestia_pb.specs.HalfRows.{HalfParts, half_row_text, half_row_value}
use Rattle.half_rows.specs.Rows.{width_of, IsRowOf, is_ordered_row, WholeRow, sample_in, IsOrderedRowOf}
use Rattle.da_wire.specs.declared.frames.Frame.{Frame}
use Rattle.da_wire.specs.declared.frames.Frame.TheVariants.{Message}
use Rattle.da_wire.specs.Spelling.{spelling, message_kind}
use Rattle.da_wire.specs.Values.{bad_value}
use Rattle.da_status.specs.declared.status.Asked.TheVariants.{Form, NoHeader}
use Rattle.da_status.specs.declared.status.Status.TheVariants.{Done, BadRequest}
use Rattle.da_status.specs.Outcome.{Relation, Refuses}
use Rattle.da_files.specs.Contents.{file_of}
use Rattle.da_files.specs.Frames.{WritesText}
use Rattle.da_files.specs.Forms.{Over}
use Rattle.da_exchanging.specs.LeftHalf.{file_samples, half_of}

-- bytes are the spellings of frames, one after another
unfoldable pub AreSpelled : List Frame → List ℕ → Type 0
AreSpelled [] bytes = bytes ≡ []
AreSpelled (frame ∷ frames) bytes =
    (text : List ℕ) × (rest : List ℕ) × (spelling frame ≡ Some text) × AreSpelled frames rest × (bytes ≡ text ++ rest)

-- the output is the spellings of frames
abbrev pub WritesFrames : List Frame → Relation
WritesFrames frames w status = AreSpelled frames w × (status ≡ Done)

-- the frame of the sample of a row in a column
abbrev pub row_sample_frame : WholeRow → ℕ → Frame
row_sample_frame parts col = Message (sample_in parts col)

-- those of all columns, from column 0
abbrev pub row_frames : WholeRow → List Frame
row_frames parts = map (row_sample_frame parts) (ascending 0 (2 * parts.k))

-- the frames of the row of this number that has the half
abbrev pub WritesRow : ℕ → HalfParts → Relation
WritesRow row half w status = (parts : WholeRow) × IsOrderedRowOf half row parts × WritesFrames (row_frames parts) w status

-- the leaf namespaces of the row fall, so that no square has a header with it
abbrev pub RowFalls : ℕ → HalfParts → Relation
RowFalls row half w status =
    ((line : List Share) → IsRowOf half line → is_ordered_row (width_of half) row line ≡ false) × Refuses (BadRequest NoHeader) w status

-- what is answered to a half by whether the square has a row of this number
abbrev pub RowBy : Bool → ℕ → HalfParts → Relation
RowBy true row half w status = WritesRow row half w status ⊎ RowFalls row half w status
RowBy false row half w status = Refuses (BadRequest Form) w status

-- what is answered to a half of the row of this number
abbrev pub RowOf : ℕ → HalfParts → Relation
RowOf row half = RowBy (nat_lt row (2 * width_of half)) row half

-- what `import row` answers to a FILE that is half a row
abbrev pub ImportRowOf : ℕ → List (List ℕ) → Relation
ImportRowOf row files = Over (half_row_value (file_of files 0)) (RowOf row)

-- FILE is a list of samples
abbrev pub samples_judged : List (List ℕ) → List (Option ℕ)
samples_judged files = bad_value (message_kind ∷ []) (file_of files 0) ∷ []

-- the message of half a row; without one the samples aren't those of a row
abbrev pub HalfBy : Option HalfParts → Relation
HalfBy None = Refuses (BadRequest Form)
HalfBy (Some half) = WritesText Done (half_row_text half)

-- what `export row` answers to a FILE that is a list of samples: the message of the left half of the row of which they are all
abbrev pub ExportRowOf : List (List ℕ) → Relation
ExportRowOf files = HalfBy (half_of (file_samples (file_of files 0)))
