-- Rows of a square in its extension, and the trees over them that are made when they are asked for.
use Rattle.std.specs.Prelude.{◌≡◌, ℕ, ◌*◌, ◌<◌, List, length, get_or, take}
use Rattle.namespace_id.specs.declared.cells.Axis.TheVariants.{Row}
use Rattle.namespace_id.specs.declared.shares.Share.{Share}
use Rattle.nmt_tree.specs.Trees.{StoredTree}
use Rattle.data_header.specs.Headers.{Roots}
use Rattle.square_layout.specs.Blocks.{SquareShares}
use Rattle.axis_roots.specs.Grids.{IsHeaderOf, axis_shares}
use Rattle.axis_roots.specs.Trees.{axis_stored, no_tree}
use Rattle.square_serve.specs.declared.row_trees.RowTrees.{RowTrees}
use Rattle.square_serve.specs.declared.rows.RowNames.{RowNames}
use Rattle.square_serve.specs.Needed.{IsNeededTree}
use Rattle.square_serve.specs.RowNames.{row_names}

-- a square has a header
abbrev pub HasHeader : SquareShares → Type 0
HasHeader square = (header : Roots) × IsHeaderOf header square

-- the k shares that a row of the original square has, and the tree over the leaves of that row of a grid
pub record IsRowTree (k : ℕ) (grid : List Share) (row : ℕ) (front : List Share) (stored : StoredTree) : Type 0 where
  pub within : row < k
  pub shares : front ≡ take k (axis_shares k grid Row row)
  pub tree : stored ≡ axis_stored k grid Row row

-- a tree for each row of a square that has a header, empty or over the row's leaves in the extension
pub record AreNeededRows (square : SquareShares) (trees : List StoredTree) : Type 0 where
  pub own : HasHeader square
  pub count : length trees ≡ square.k
  pub each : (row : ℕ) → row < square.k → IsNeededTree square.k own.1.grid Row row (get_or trees row no_tree)

-- with a room for the code and lines for 2k shares and 2k namespaces
pub record AreRowTrees (square : SquareShares) (made : RowTrees) : Type 0 where
  pub rows : AreNeededRows square made.trees.items
  pub room : made.room ≡ square.k
  pub line : length made.line.items ≡ 2 * square.k
  pub names : length made.names.items ≡ 2 * square.k

-- what is kept beside a square that has a header: the namespaces of its rows' roots, and trees
pub record AreHeldRows (square : SquareShares) (told : List RowNames) (made : RowTrees) : Type 0 where
  pub trees : AreRowTrees square made
  pub names : told ≡ row_names square.k trees.rows.own.1.grid
