-- Data availability headers: the roots of all rows and columns of an extended data square (Celestia
-- specifications, "Data Structures").
use Rattle.std.specs.Prelude.{◌≡◌, ℕ, ◌*◌, List, length, get_or, true}
use Rattle.namespace_id.specs.declared.cells.Axis.{Axis}
use Rattle.namespace_id.specs.declared.cells.Axis.TheVariants.{Row, Col}
use Rattle.namespace_id.specs.declared.digests.Digest.{Digest}
use Rattle.namespace_id.specs.Cells.{is_width}
use Rattle.namespace_id.specs.Digests.{AreDigests, no_digest}

-- a header as contracts see it: its width k, and the 2k roots of its rows and of its columns
pub record Roots : Type 0 where
  pub k : ℕ
  pub rows : List Digest
  pub cols : List Digest

-- the k of a header is a width, and it has 2k row roots and 2k column roots
pub record AreRoots (header : Roots) : Type 0 where
  pub width : is_width header.k ≡ true
  pub rows : length header.rows ≡ 2 * header.k
  pub cols : length header.cols ≡ 2 * header.k

-- a header whose digests have 90 bytes
pub record IsHeader (header : Roots) : Type 0 where
  pub roots : AreRoots header
  pub rows : AreDigests header.rows
  pub cols : AreDigests header.cols

-- the roots along an axis
abbrev pub roots_along : Roots → Axis → List Digest
roots_along header Row = header.rows
roots_along header Col = header.cols

-- the root of an axis
abbrev pub root_of : Roots → Axis → ℕ → Digest
root_of header axis index = get_or (roots_along header axis) index no_digest
