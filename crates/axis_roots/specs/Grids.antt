-- Extended data squares, and the data availability header that one has (Celestia specifications, "Data Structures";
-- docs/RULES.md, "Extended squares").
use Rattle.std.specs.Prelude.{◌≡◌, ◌<◌, ℕ, ◌+◌, ◌*◌, ◌&&◌, Bool, true, IsTrue, List, map, length, get_or, Option, Some, None, if◌then◌else◌}
use Rattle.std.specs.List.{list_all}
use Rattle.namespace_id.specs.declared.cells.Cell.{Cell}
use Rattle.namespace_id.specs.declared.cells.Axis.{Axis}
use Rattle.namespace_id.specs.declared.cells.Axis.TheVariants.{Row, Col}
use Rattle.namespace_id.specs.declared.namespaces.Namespace.{Namespace}
use Rattle.namespace_id.specs.declared.shares.Share.{Share}
use Rattle.namespace_id.specs.declared.digests.Digest.{Digest}
use Rattle.namespace_id.specs.Cells.{is_width, is_in_square, leaf_namespace}
use Rattle.nmt_tree.specs.Digests.{leaf_digest}
use Rattle.nmt_proofs.specs.Parts.{Part}
use Rattle.data_header.specs.Headers.{Roots}
use Rattle.namespace_id.specs.Lists.{ascending}
use Rattle.leopard_code.specs.Codewords.{IsCodeword}
use Rattle.square_layout.specs.Blocks.{SquareShares, IsSquare}
use Rattle.axis_roots.specs.Lines.{blank, cell_on, line_names, is_ordered_line, line_root, line_tree}
use Rattle.namespace_id.specs.Digests.{no_digest}

-- the k of a grid is a width, and it has 2k by 2k shares
pub record IsGrid (grid : SquareShares) : Type 0 where
  pub width : is_width grid.k ≡ true
  pub count : length grid.shares ≡ 2 * grid.k * (2 * grid.k)

-- ---- rows and columns

-- the share of a cell in a row-major list with so many shares in a row
abbrev pub share_at : ℕ → List Share → Cell → Share
share_at in_row shares cell = get_or shares (cell.row * in_row + cell.col) blank

-- the 2k cells of a row or a column
unfoldable pub axis_cells : ℕ → Axis → ℕ → List Cell
axis_cells k axis index = map (cell_on axis index) (ascending 0 (2 * k))

-- the shares along a row or a column of a grid
abbrev pub axis_shares : ℕ → List Share → Axis → ℕ → List Share
axis_shares k shares axis index = map (share_at (2 * k) shares) (axis_cells k axis index)

-- the leaf namespaces along a row or a column of a grid
abbrev pub axis_names : ℕ → List Share → Axis → ℕ → List Namespace
axis_names k shares axis index = line_names k axis index (axis_shares k shares axis index)

-- whether the leaf namespaces along a row or a column never fall
abbrev pub is_ordered_axis : ℕ → List Share → Axis → ℕ → Bool
is_ordered_axis k shares axis index = is_ordered_line k axis index (axis_shares k shares axis index)

-- the root over the leaves along a row or a column
abbrev pub axis_root : ℕ → List Share → Axis → ℕ → Digest
axis_root k shares axis index = line_root k axis index (axis_shares k shares axis index)

-- the tree over the leaves along a row or a column, in which no digest is given
abbrev pub axis_tree : ℕ → List Share → Axis → ℕ → Part
axis_tree k shares axis index = line_tree k axis index (axis_shares k shares axis index)

-- ---- the extension of a square

-- the square stands in the upper left quarter, and each row and each column is a codeword
pub record Extends (k : ℕ) (square grid : List Share) : Type 0 where
  pub size : length grid ≡ 2 * k * (2 * k)
  pub quarter : (cell : Cell) → cell.row < k → cell.col < k → share_at (2 * k) grid cell ≡ share_at k square cell
  pub codewords : (axis : Axis) (index : ℕ) → index < 2 * k → IsCodeword k (axis_shares k grid axis index)

-- ---- leaves

-- the digest of the leaf over a cell, one for the trees over its row and over its column
abbrev pub leaf_over : ℕ → List Share → Cell → Digest
leaf_over k shares cell =
    leaf_digest (leaf_namespace k cell (share_at (2 * k) shares cell)) (share_at (2 * k) shares cell)

-- the digests of the leaves over all cells, row-major
pub record AreLeafDigests (k : ℕ) (shares : List Share) (leaves : List Digest) : Type 0 where
  pub count : length leaves ≡ 2 * k * (2 * k)
  pub digests : (cell : Cell) → IsTrue (is_in_square k cell)
      → get_or leaves (cell.row * (2 * k) + cell.col) no_digest ≡ leaf_over k shares cell

-- ---- headers

-- whether the leaf namespaces of no row and no column fall
unfoldable pub are_ordered_axes : ℕ → List Share → Bool
are_ordered_axes k shares =
    list_all (is_ordered_axis k shares Row) (ascending 0 (2 * k))
    && list_all (is_ordered_axis k shares Col) (ascending 0 (2 * k))

-- the roots of all rows, or of all columns, in their order
abbrev pub axis_roots : ℕ → List Share → Axis → List Digest
axis_roots k shares axis = map (axis_root k shares axis) (ascending 0 (2 * k))

-- the roots of all rows and all columns of a grid: its header, where it has one
abbrev pub grid_roots : ℕ → List Share → Roots
grid_roots k shares = record { k = k; rows = axis_roots k shares Row; cols = axis_roots k shares Col }

-- the header of a grid: the strict roots of all rows and columns, none where one of them has none
abbrev pub header_of_grid : ℕ → List Share → Option Roots
header_of_grid k shares = if are_ordered_axes k shares then Some (grid_roots k shares) else None

-- the header of a square is that of its extension
pub record IsHeaderOf (header : Roots) (square : SquareShares) : Type 0 where
  pub whole : IsSquare square
  pub grid : List Share
  pub extends : Extends square.k square.shares grid
  pub roots : header_of_grid square.k grid ≡ Some header

-- no header is that of the square
abbrev pub HasNoHeader : SquareShares → Type 0
HasNoHeader square = (header : Roots) → IsHeaderOf header square → ⊥
