-- Widths, cells and leaf namespaces (Celestia specifications, "Data Structures").
use Rattle.std.specs.Prelude.{◌≡◌, ℕ, ◌<◌, ◌^◌, ◌*◌, ◌/◌, ◌%◌, ◌≤◌, ◌==◌, ◌&&◌, ◌||◌, nat_lt, Bool, true, List, [], ◌∷◌, ◌++◌, map, if◌then◌else◌, Vec, vec_capacity}
use Rattle.std.specs.declared.alloc.Global.{Global}
use Rattle.namespace_id.specs.declared.namespaces.Namespace.{Namespace}
use Rattle.namespace_id.specs.declared.shares.Share.{Share}
use Rattle.namespace_id.specs.declared.cells.Cell.{Cell}
use Rattle.std.specs.List.{list_all}
use Rattle.namespace_id.specs.Names.{parity}
use Rattle.namespace_id.specs.Shares.{name_in}
use Rattle.namespace_id.specs.Lists.{holds_along, ascending}
use Rattle.namespace_id.specs.declared.cells.Axis.{Axis}
use Rattle.namespace_id.specs.declared.cells.Axis.TheVariants.{Row, Col}

-- whether a square may have this width: a power of two from 1 to 512 (docs/RULES.md, "Widths")
abbrev pub is_width : ℕ → Bool
is_width k = (k == 1) || (k == 2) || (k == 4) || (k == 8) || (k == 16) || (k == 32) || (k == 64) || (k == 128) || (k == 256) || (k == 512)

-- the crossing kind of axis: that of columns for rows, and that of rows for columns
abbrev pub crossing : Axis → Axis
crossing Row = Col
crossing Col = Row

-- the cell of a row and a column
abbrev pub cell_in : ℕ → ℕ → Cell
cell_in row col = record { row = row; col = col }

-- a cell has numbers of two bytes
pub record IsCell (cell : Cell) : Type 0 where
  pub row : cell.row < 2 ^ 16
  pub col : cell.col < 2 ^ 16

-- whether the extended square of this width has the cell
abbrev pub is_in_square : ℕ → Cell → Bool
is_in_square k cell = nat_lt cell.row (2 * k) && nat_lt cell.col (2 * k)

-- whether the cell lies in the original square
abbrev pub is_original : ℕ → Cell → Bool
is_original k cell = nat_lt cell.row k && nat_lt cell.col k

-- the namespace of the leaf over a cell: that of its share in the original square, and PARITY outside
abbrev pub leaf_namespace : ℕ → Cell → Share → Namespace
leaf_namespace k cell share = if is_original k cell then name_in share else parity

-- whether the first cell comes before the second in row-major order
abbrev pub is_before : Cell → Cell → Bool
is_before a b = nat_lt a.row b.row || ((a.row == b.row) && nat_lt a.col b.col)

-- whether these are cells of the square of a width, strictly ascending in row-major order
abbrev pub are_cells : ℕ → List Cell → Bool
are_cells k cells = is_width k && list_all (is_in_square k) cells && holds_along is_before cells

-- a list of cells as contracts see it: the width of its square, and the cells
pub record CellList : Type 0 where
  pub k : ℕ
  pub list : List Cell

-- these are cells of the square of their width, strictly ascending in row-major order
abbrev pub AreCells : CellList → Type 0
AreCells cells = are_cells cells.k cells.list ≡ true

-- the cell with a number in row-major order, where so many cells are in a row
abbrev pub cell_numbered : ℕ → ℕ → Cell
cell_numbered in_row number = record { row = number / in_row; col = number % in_row }

-- all cells of the extended square of this width, row-major
abbrev pub all_cells : ℕ → List Cell
all_cells k = map (cell_numbered (2 * k)) (ascending 0 (2 * k * (2 * k)))

-- the list with one cell more, at its end
abbrev pub with_cell : CellList → Cell → CellList
with_cell cells cell = record { k = cells.k; list = cells.list ++ cell ∷ [] }

-- these are cells of the square of this width, row-major, and there is capacity for each cell of the square
pub record IsCellRoom (k : ℕ) (list : Vec Cell Global) : Type 0 where
  pub cells : are_cells k list.items ≡ true
  pub capacity : 2 * k * (2 * k) ≤ vec_capacity list
