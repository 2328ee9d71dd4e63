-- The row that has half a row, and the samples of its cells (Celestia specifications, "Data Structures"; docs/RULES.md, "The code").
use Rattle.std.specs.Prelude.{◌≡◌, ◌<◌, ℕ, ◌*◌, Bool, true, List, length}
use Rattle.namespace_id.specs.declared.cells.Axis.TheVariants.{Row}
use Rattle.namespace_id.specs.declared.shares.Share.{Share}
use Rattle.namespace_id.specs.Cells.{is_width}
use Rattle.namespace_id.specs.Lists.{ascending}
use Rattle.leopard_code.specs.Codewords.{IsCodeword, HasEntries}
use Rattle.nmt_tree.specs.Trees.{StoredTree}
use Rattle.axis_roots.specs.declared.message.messages.Message.{Message}
use Rattle.axis_roots.specs.Lines.{is_ordered_line}
use Rattle.axis_roots.specs.Trees.{line_stored, line_message}
use Rattle.celestia_pb.specs.declared.half_row.Side.{Side}
use Rattle.celestia_pb.specs.declared.half_row.Side.TheVariants.{Left, Right}
use Rattle.celestia_pb.specs.HalfRows.{HalfParts}

-- the width of the square that a half is of
abbrev pub width_of : HalfParts → ℕ
width_of half = length half.shares

-- the positions of a half: the first k are the originals, the others are the recovery shares
abbrev pub positions_of_half : ℕ → Side → List ℕ
positions_of_half k Left = ascending 0 k
positions_of_half k Right = ascending k k

-- the row has the shares of the half at its positions
abbrev pub HasHalf : HalfParts → List Share → Type 0
HasHalf half line = HasEntries (positions_of_half (width_of half) half.side) half.shares line

-- the 2k shares of a row that has the half: they are a codeword
pub record IsRowOf (half : HalfParts) (line : List Share) : Type 0 where
  pub codeword : IsCodeword (width_of half) line
  pub half_of : HasHalf half line

-- whether the leaf namespaces of a row never fall
abbrev pub is_ordered_row : ℕ → ℕ → List Share → Bool
is_ordered_row k row line = is_ordered_line k Row row line

-- a row of 2k shares: its square's width, its number, and its shares
pub record WholeRow : Type 0 where
  pub k : ℕ
  pub row : ℕ
  pub line : List Share

-- the sample of the cell in a column
abbrev pub sample_in : WholeRow → ℕ → Message
sample_in parts col = line_message parts.k Row parts.row parts.line col

-- the square has the row, and the tree is the one over its leaves
pub record IsStoredRow (parts : WholeRow) (tree : StoredTree) : Type 0 where
  pub width : is_width parts.k ≡ true
  pub row : parts.row < 2 * parts.k
  pub count : length parts.line ≡ 2 * parts.k
  pub tree_of : tree ≡ line_stored parts.k Row parts.row parts.line

-- the row of this number that has the half, of which the leaf namespaces never fall
pub record IsOrderedRowOf (half : HalfParts) (number : ℕ) (parts : WholeRow) : Type 0 where
  pub width : parts.k ≡ width_of half
  pub number_is : parts.row ≡ number
  pub row_of : IsRowOf half parts.line
  pub ordered : is_ordered_row parts.k parts.row parts.line ≡ true
