-- Commitment proofs that are made from the trees of a square's rows (docs/RULES.md, "Commitment proofs").
use Rattle.std.specs.Prelude.{◌≡◌, ◌<◌, ℕ, ◌*◌, ◌/◌, List, [], ◌∷◌, ◌++◌, length, get_or, true, Some}
use Rattle.namespace_id.specs.declared.cells.Axis.TheVariants.{Row}
use Rattle.nmt_tree.specs.Roots.{halvings}
use Rattle.nmt_tree.specs.Trees.{StoredTree, digest_over}
use Rattle.nmt_proofs.specs.Openings.{Opens}
use Rattle.data_header.specs.Headers.{Roots, root_of}
use Rattle.data_header.specs.DataRoots.{OpensRoot}
use Rattle.axis_roots.specs.Trees.{no_tree}
use Rattle.blob_commit.specs.Proofs.{RowParts, row_sizes, shown_in, fits_rows, RowsLead, RowsOpen}

-- a tree is for 2k leaves, isn't empty, and has the root of a row of a header
pub record IsHeaderRowTree (header : Roots) (row : ℕ) (tree : StoredTree) : Type 0 where
  pub count : tree.count ≡ 2 * header.k
  pub root : digest_over tree 0 (2 * header.k) ≡ Some (root_of header Row row)

-- trees begin with those of the first k rows, in their order
abbrev pub BeginWithRowTrees : Roots → List StoredTree → Type 0
BeginWithRowTrees header trees = (row : ℕ) → row < header.k → IsHeaderRowTree header row (get_or trees row no_tree)

-- a row is the one in which `left` shares from an index on begin, and holds under a data root
pub record RowHolds (root : List ℕ) (k levels at left : ℕ) (row : RowParts) : Type 0 where
  pub lead : OpensRoot root k Row (at / k) row.root row.up
  pub count : length row.subtrees ≡ length (row_sizes k levels at left)
  pub opens : Opens (halvings (2 * k)) (shown_in k levels at left row) row.nodes row.root

-- such a row came behind others
pub record AddsRow (root : List ℕ) (k levels at left : ℕ) (old new : List RowParts) : Type 0 where
  pub row : RowParts
  pub all : new ≡ old ++ row ∷ []
  pub holds : RowHolds root k levels at left row

-- rows are those that `left` shares from an index on touch, and each of them holds under a data root
pub record RowsHold (root : List ℕ) (k levels at left : ℕ) (rows : List RowParts) : Type 0 where
  pub fits : fits_rows k levels at left rows ≡ true
  pub lead : RowsLead root k (at / k) rows
  pub opens : RowsOpen k levels at left rows

-- such rows came behind others
pub record AddsRows (root : List ℕ) (k levels at left : ℕ) (old new : List RowParts) : Type 0 where
  pub added : List RowParts
  pub all : new ≡ old ++ added
  pub hold : RowsHold root k levels at left added
