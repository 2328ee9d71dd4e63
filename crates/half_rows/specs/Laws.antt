-- A half is of one row, and the samples of the row that it is of are those of each square that has the row.
use Rattle.std.specs.Prelude.{◌≡◌, ◌<◌, ℕ, ◌*◌, List}
use Rattle.namespace_id.specs.declared.cells.Axis.TheVariants.{Row}
use Rattle.namespace_id.specs.declared.shares.Share.{Share}
use Rattle.namespace_id.specs.Cells.{cell_in}
use Rattle.namespace_id.specs.Shares.{AreShares}
use Rattle.axis_roots.specs.Grids.{axis_shares, Extends}
use Rattle.axis_roots.specs.Trees.{message_at}
use Rattle.celestia_pb.specs.HalfRows.{HalfParts, IsHalf}
use Rattle.half_rows.specs.Rows.{width_of, HasHalf, IsRowOf, sample_in}

-- there is a row that has the half
abbrev pub RowIsThere : Type 0
RowIsThere = (half : HalfParts) → IsHalf half → AreShares half.shares → (line : List Share) × IsRowOf half line

-- and no other one
abbrev pub RowIsOne : Type 0
RowIsOne = (half : HalfParts) (one other : List Share) → IsHalf half → IsRowOf half one → IsRowOf half other → one ≡ other

-- where a row of the extension of a square has the half, its samples are those of the extension
abbrev pub SamplesAreOfSquare : Type 0
SamplesAreOfSquare = (half : HalfParts) (square grid line : List Share) (row col : ℕ) → IsHalf half → Extends (width_of half) square grid
    → row < 2 * width_of half → col < 2 * width_of half → HasHalf half (axis_shares (width_of half) grid Row row) → IsRowOf half line
    → sample_in (record { k = width_of half; row = row; line = line }) col ≡ message_at (width_of half) grid (cell_in row col) Row
