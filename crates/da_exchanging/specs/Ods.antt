-- ods: an original square as its shares alone, and its frame S.
use Rattle.std.specs.Prelude.{ℕ, List}
use Rattle.celestia_pb.specs.Ods.{ods_text, ods_value}
use Rattle.da_wire.specs.declared.frames.Frame.TheVariants.{Square}
use Rattle.da_status.specs.Outcome.{Relation}
use Rattle.da_files.specs.Frames.{square_in}
use Rattle.da_exchanging.specs.Made.{Frames, Texts}

-- what `import ods` answers to a FILE that is the shares of a square: the frame of the square
abbrev pub ImportOdsOf : List (List ℕ) → Relation
ImportOdsOf = Frames ods_value Square

-- what `export ods` answers to a FILE that is a square: its shares
abbrev pub ExportOdsOf : List (List ℕ) → Relation
ExportOdsOf = Texts square_in ods_text
