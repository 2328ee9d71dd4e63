-- The trees of a grid that are made when they are asked for.
use Rattle.std.specs.Prelude.{◌≡◌, ℕ, ◌+◌, ◌*◌, ◌<◌, List, length, get_or, replicate, Bool, true, IsTrue, Option, None, IfSome}
use Rattle.namespace_id.specs.declared.cells.Cell.{Cell}
use Rattle.namespace_id.specs.declared.cells.Axis.{Axis}
use Rattle.namespace_id.specs.declared.cells.Axis.TheVariants.{Row, Col}
use Rattle.namespace_id.specs.declared.shares.Share.{Share}
use Rattle.namespace_id.specs.declared.digests.Digest.{Digest}
use Rattle.namespace_id.specs.Shares.{AreShares}
use Rattle.namespace_id.specs.Cells.{is_in_square}
use Rattle.nmt_tree.specs.Trees.{StoredTree}
use Rattle.data_header.specs.Headers.{Roots}
use Rattle.axis_roots.specs.Grids.{leaf_over, are_ordered_axes, grid_roots}
use Rattle.axis_roots.specs.Trees.{axis_leaves, no_tree}
use Rattle.square_serve.specs.declared.needed.NeededTrees.{NeededTrees}
use Rattle.square_serve.specs.declared.rows.RowNames.{RowNames}
use Rattle.square_serve.specs.RowNames.{row_names}

-- of the leaves over all cells, row-major, each one that was hashed has its digest
pub record AreNeededLeaves (k : ℕ) (grid : List Share) (leaves : List (Option Digest)) : Type 0 where
  pub count : length leaves ≡ 2 * k * (2 * k)
  pub digests : (cell : Cell) → IsTrue (is_in_square k cell)
      → IfSome (get_or leaves (cell.row * (2 * k) + cell.col) None) (λ digest. digest ≡ leaf_over k grid cell)

-- a tree for the leaves along a row or a column, empty or over them
pub record IsNeededTree (k : ℕ) (grid : List Share) (axis : Axis) (index : ℕ) (tree : StoredTree) : Type 0 where
  pub count : tree.count ≡ 2 * k
  pub leaves : IfSome tree.leaves (λ leaves. leaves ≡ axis_leaves k grid axis index)

-- one for each row, or for each column, of a grid
pub record AreNeededTrees (k : ℕ) (grid : List Share) (axis : Axis) (trees : List StoredTree) : Type 0 where
  pub count : length trees ≡ 2 * k
  pub each : (index : ℕ) → index < 2 * k → IsNeededTree k grid axis index (get_or trees index no_tree)

-- so many empty trees, each for `count` leaves
abbrev pub empty_trees : ℕ → ℕ → List StoredTree
empty_trees number count = replicate number (record { count = count; leaves = None })

-- the trees along an axis
abbrev pub needed_along : NeededTrees → Axis → List StoredTree
needed_along trees Row = trees.rows.items
needed_along trees Col = trees.cols.items

-- the tree of a row or a column
abbrev pub needed_at : NeededTrees → Axis → ℕ → StoredTree
needed_at trees axis index = get_or (needed_along trees axis) index no_tree

-- a header of the width of a grid: the grid's, where its roots were put
pub record IsNeededHeader (k : ℕ) (grid : List Share) (rooted : Bool) (header : Roots) : Type 0 where
  pub width : header.k ≡ k
  pub roots : rooted ≡ true → header ≡ grid_roots k grid

-- those of the rows and the columns of a grid along which no namespaces fall, with a line for 2k digests and a header
pub record AreNeeded (k : ℕ) (grid : List Share) (trees : NeededTrees) : Type 0 where
  pub shares : AreShares grid
  pub ordered : are_ordered_axes k grid ≡ true
  pub leaves : AreNeededLeaves k grid trees.leaves.items
  pub rows : AreNeededTrees k grid Row trees.rows.items
  pub cols : AreNeededTrees k grid Col trees.cols.items
  pub line : length trees.line.items ≡ 2 * k
  pub header : IsNeededHeader k grid trees.rooted trees.header

-- what is kept beside a grid: the namespaces of its rows' roots, and trees
pub record AreKept (k : ℕ) (grid : List Share) (told : List RowNames) (made : NeededTrees) : Type 0 where
  pub names : told ≡ row_names k grid
  pub trees : AreNeeded k grid made
