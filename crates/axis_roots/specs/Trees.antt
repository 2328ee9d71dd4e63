-- The stored trees over the leaves of lines, and of all rows and columns of a grid, and samples made from them.
use Rattle.std.specs.Prelude.{◌≡◌, ℕ, ◌*◌, List, map, length, get_or, true, Option, Some, None, IsSome, if◌then◌else◌}
use Rattle.std.specs.List.{AllByRecursion}
use Rattle.std.specs.Option.{option_map_or}
use Rattle.namespace_id.specs.declared.cells.Cell.{Cell}
use Rattle.namespace_id.specs.declared.cells.Axis.{Axis}
use Rattle.namespace_id.specs.declared.cells.Axis.TheVariants.{Row, Col}
use Rattle.namespace_id.specs.declared.shares.Share.{Share}
use Rattle.namespace_id.specs.declared.digests.Digest.{Digest}
use Rattle.namespace_id.specs.Cells.{is_width}
use Rattle.namespace_id.specs.Digests.{no_digest}
use Rattle.namespace_id.specs.Lists.{ascending}
use Rattle.nmt_tree.specs.Roots.{halvings}
use Rattle.nmt_tree.specs.Levels.{leaf_digests, span}
use Rattle.nmt_tree.specs.Trees.{StoredTree}
use Rattle.nmt_proofs.specs.Making.{leaf_nodes}
use Rattle.axis_roots.specs.declared.message.messages.Message.{Message}
use Rattle.axis_roots.specs.Messages.{position, index}
use Rattle.axis_roots.specs.Lines.{entry, cell_on, line_names}
use Rattle.axis_roots.specs.Grids.{share_at, axis_shares, are_ordered_axes}

-- ---- lines

-- the digests of the leaves over a line of 2k shares, taken as a row or a column
abbrev pub line_leaves : ℕ → Axis → ℕ → List Share → List Digest
line_leaves k axis index line = leaf_digests (line_names k axis index line) line

-- the stored tree over them
abbrev pub line_stored : ℕ → Axis → ℕ → List Share → StoredTree
line_stored k axis index line = record { count = 2 * k; leaves = Some (line_leaves k axis index line) }

-- the sample of the cell at a position of a line, along it
abbrev pub line_message : ℕ → Axis → ℕ → List Share → ℕ → Message
line_message k axis index line pos = record {
  cell = cell_on axis index pos;
  axis = axis;
  share = entry line pos;
  path = leaf_nodes (2 * k) (line_leaves k axis index line) pos;
}

-- ---- rows and columns of a grid

-- the digests of the leaves along a row or a column
abbrev pub axis_leaves : ℕ → List Share → Axis → ℕ → List Digest
axis_leaves k shares axis index = line_leaves k axis index (axis_shares k shares axis index)

-- the stored tree over the leaves along a row or a column
abbrev pub axis_stored : ℕ → List Share → Axis → ℕ → StoredTree
axis_stored k shares axis index = record { count = 2 * k; leaves = Some (axis_leaves k shares axis index) }

-- those of all rows, or of all columns, in their order
abbrev pub stored_along : ℕ → List Share → Axis → List StoredTree
stored_along k shares axis = map (axis_stored k shares axis) (ascending 0 (2 * k))

-- the root of a stored tree, no digest where it is empty
abbrev pub stored_root : StoredTree → Digest
stored_root tree = option_map_or (λ leaves. span leaves 0 (halvings tree.count)) tree.leaves no_digest

-- the stored trees of rows and of columns, and the width of their square
pub record AxisTrees : Type 0 where
  pub k : ℕ
  pub rows : List StoredTree
  pub cols : List StoredTree

-- each of these is not empty
abbrev pub AreFilled : List StoredTree → Type 0
AreFilled trees = AllByRecursion (λ tree. IsSome tree.leaves) trees

-- the k of trees is a width, and there are 2k of each kind, none of them empty
pub record AreTrees (trees : AxisTrees) : Type 0 where
  pub width : is_width trees.k ≡ true
  pub rows : length trees.rows ≡ 2 * trees.k
  pub cols : length trees.cols ≡ 2 * trees.k
  pub filled_rows : AreFilled trees.rows
  pub filled_cols : AreFilled trees.cols

-- the stored trees of a grid, none where the namespaces of a row or a column fall
abbrev pub trees_of_grid : ℕ → List Share → Option AxisTrees
trees_of_grid k shares =
    if are_ordered_axes k shares
    then Some (record { k = k; rows = stored_along k shares Row; cols = stored_along k shares Col })
    else None

-- the trees along an axis
abbrev pub trees_along : AxisTrees → Axis → List StoredTree
trees_along trees Row = trees.rows
trees_along trees Col = trees.cols

-- an empty tree for no leaves, which stands for one that a list does not have
abbrev pub no_tree : StoredTree
no_tree = record { count = 0; leaves = None }

-- the tree of a row or a column
abbrev pub tree_at : AxisTrees → Axis → ℕ → StoredTree
tree_at trees axis index = get_or (trees_along trees axis) index no_tree

-- the sample of a cell of a grid along an axis
abbrev pub message_at : ℕ → List Share → Cell → Axis → Message
message_at k shares cell axis = record {
  cell = cell;
  axis = axis;
  share = share_at (2 * k) shares cell;
  path = leaf_nodes (2 * k) (axis_leaves k shares axis (index axis cell)) (position axis cell);
}
