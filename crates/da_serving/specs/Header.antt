-- header SQUARE: the header of a square (a data availability header).
use Rattle.std.specs.Prelude.{◌⊎◌, ℕ, List}
use Rattle.data_header.specs.Headers.{Roots}
use Rattle.square_layout.specs.Blocks.{SquareShares}
use Rattle.axis_roots.specs.Grids.{IsHeaderOf, HasNoHeader}
use Rattle.da_wire.specs.declared.frames.Frame.TheVariants.{Header}
use Rattle.da_status.specs.declared.status.Asked.TheVariants.{NoHeader}
use Rattle.da_status.specs.declared.status.Status.TheVariants.{BadRequest}
use Rattle.da_files.specs.Contents.{square_file}
use Rattle.da_status.specs.Outcome.{Relation, Refuses}
use Rattle.da_files.specs.Frames.{square_in, Writes}
use Rattle.da_files.specs.Forms.{Over}

-- what header answers to a square: the frame of its header, or the refusal of a square that has none
abbrev pub Heads : SquareShares → Relation
Heads square w status =
    ((header : Roots) × IsHeaderOf header square × Writes (Header header) w status)
    ⊎ (HasNoHeader square × Refuses (BadRequest NoHeader) w status)

-- what header answers to a SQUARE that is a square
abbrev pub HeaderOf : List (List ℕ) → Relation
HeaderOf files = Over (square_in (square_file files)) Heads
