-- Rows and columns of extended squares as lists of 2k shares, and the trees over their leaves
-- (Celestia specifications, "Data Structures").
use Rattle.std.specs.Prelude.{ℕ, ◌*◌, Bool, List, map, get_or, replicate, Option}
use Rattle.namespace_id.specs.declared.cells.Cell.{Cell}
use Rattle.namespace_id.specs.declared.cells.Axis.{Axis}
use Rattle.namespace_id.specs.declared.cells.Axis.TheVariants.{Row, Col}
use Rattle.namespace_id.specs.declared.namespaces.Namespace.{Namespace}
use Rattle.namespace_id.specs.declared.shares.Share.{Share}
use Rattle.namespace_id.specs.declared.digests.Digest.{Digest}
use Rattle.namespace_id.specs.Cells.{leaf_namespace}
use Rattle.namespace_id.specs.Lists.{ascending}
use Rattle.nmt_tree.specs.Roots.{halvings, root, is_ordered, strict_root}
use Rattle.nmt_proofs.specs.Parts.{Part}
use Rattle.nmt_proofs.specs.Clashes.{whole}

-- the share of 512 zeros, which stands for one that a list does not have
unfoldable pub blank : Share
blank = record { 0 = replicate 512 0 }

-- the share at a position of a line
abbrev pub entry : List Share → ℕ → Share
entry line pos = get_or line pos blank

-- the cell at a place of a row or a column
abbrev pub cell_on : Axis → ℕ → ℕ → Cell
cell_on Row index pos = record { row = index; col = pos }
cell_on Col index pos = record { row = pos; col = index }

-- the namespaces of the leaves over a line of 2k shares, taken as a row or a column of a square of
-- width k; where the line is shorter, of those over blank shares
unfoldable pub line_names : ℕ → Axis → ℕ → List Share → List Namespace
line_names k axis index line =
    map (λ pos. leaf_namespace k (cell_on axis index pos) (get_or line pos blank)) (ascending 0 (2 * k))

-- whether the leaf namespaces of a line never fall
abbrev pub is_ordered_line : ℕ → Axis → ℕ → List Share → Bool
is_ordered_line k axis index line = is_ordered (line_names k axis index line)

-- the root over the leaves of a line
unfoldable pub line_root : ℕ → Axis → ℕ → List Share → Digest
line_root k axis index line = root (halvings (2 * k)) (line_names k axis index line) line

-- the root over the leaves of a line, none where their namespaces fall
abbrev pub line_strict_root : ℕ → Axis → ℕ → List Share → Option Digest
line_strict_root k axis index line =
    strict_root (halvings (2 * k)) (line_names k axis index line) line

-- the tree over the leaves of a line, in which no digest is given
abbrev pub line_tree : ℕ → Axis → ℕ → List Share → Part
line_tree k axis index line = whole (halvings (2 * k)) (line_names k axis index line) line
