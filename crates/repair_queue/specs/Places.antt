-- For each cell of a square a place along each axis, in row-major lists, and what a change of one leaves.
use Rattle.std.specs.Prelude.{◌≡◌, ℕ, ◌+◌, ◌*◌, List, length, get_or, true, if◌then◌else◌}
use Rattle.namespace_id.specs.declared.cells.Cell.{Cell}
use Rattle.namespace_id.specs.declared.cells.Axis.{Axis}
use Rattle.namespace_id.specs.declared.cells.Axis.TheVariants.{Row, Col}
use Rattle.namespace_id.specs.Cells.{is_width, is_in_square}

-- the place that a row-major list has for a cell of a square of width k, 0 outside of it
unfoldable pub place_in : ℕ → List ℕ → Cell → ℕ
place_in k places cell = if is_in_square k cell then get_or places (cell.row * (2 * k) + cell.col) 0 else 0

-- the places of samples, by the list of each kind
abbrev pub places_in : ℕ → List ℕ → List ℕ → Axis → Cell → ℕ
places_in k rows cols Row cell = place_in k rows cell
places_in k rows cols Col cell = place_in k cols cell

-- places as contracts see them: the width of the square, and the list of each kind
pub record PlaceParts : Type 0 where
  pub k : ℕ
  pub rows : List ℕ
  pub cols : List ℕ

-- the place of a cell along an axis
abbrev pub cell_place : PlaceParts → Axis → Cell → ℕ
cell_place p = places_in p.k p.rows p.cols

-- there is a place for each cell along each axis
pub record ArePlaces (p : PlaceParts) : Type 0 where
  pub width : is_width p.k ≡ true
  pub row_count : length p.rows ≡ 2 * p.k * (2 * p.k)
  pub col_count : length p.cols ≡ 2 * p.k * (2 * p.k)

-- a cell has this place along an axis now, and no other place changed
pub record IsPlaced (old new : Axis → Cell → ℕ) (axis : Axis) (cell : Cell) (place : ℕ) : Type 0 where
  pub here : new axis cell ≡ place
  pub elsewhere : (other : Axis) (d : Cell) → ((other ≡ axis) × (d ≡ cell) → ⊥) → new other d ≡ old other d
