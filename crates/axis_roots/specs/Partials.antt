-- What samples have shown under a header: a partial tree for each row and column.
use Rattle.std.specs.Prelude.{◌≡◌, ℕ, ◌*◌, List, map, length, true}
use Rattle.std.specs.List.{AllByRecursion}
use Rattle.namespace_id.specs.declared.digests.Digest.{Digest}
use Rattle.namespace_id.specs.Cells.{is_width}
use Rattle.nmt_proofs.specs.Partial.{RootedTree}
use Rattle.data_header.specs.Headers.{Roots}

-- the partial tree of this many leaves under a root
abbrev pub rooted : ℕ → Digest → RootedTree
rooted count root = record { count = count; root = root }

-- the roots of partial trees
abbrev pub roots_in : List RootedTree → List Digest
roots_in trees = map (λ tree. tree.root) trees

-- each tree has this many leaves
abbrev pub HaveCount : ℕ → List RootedTree → Type 0
HaveCount count trees = AllByRecursion (λ tree. tree.count ≡ count) trees

-- what contracts see of the partial trees of a square of width k: the header with their roots
abbrev pub rooted_header : ℕ → List RootedTree → List RootedTree → Roots
rooted_header k rows cols = record { k = k; rows = roots_in rows; cols = roots_in cols }

-- what is kept: of a width k, 2k trees of rows and 2k of columns, each of 2k leaves
pub record ArePartials (k : ℕ) (rows cols : List RootedTree) : Type 0 where
  pub width : is_width k ≡ true
  pub row_count : length rows ≡ 2 * k
  pub col_count : length cols ≡ 2 * k
  pub row_leaves : HaveCount (2 * k) rows
  pub col_leaves : HaveCount (2 * k) cols
