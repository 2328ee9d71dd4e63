-- Values along rows and columns.
use Rattle.std.proofs.Common.{◌≡◌, ◌∙◌, ℕ, ◌+◌, ◌*◌, ◌<◌, List, length, get_or, map, refl, sym, ap, arith}
use Rattle.std.proofs.lemmas.List.{get_or-map, length-map, ext_get_or}
use Rattle.namespace_id.specs.declared.cells.Cell.{Cell}
use Rattle.namespace_id.specs.declared.cells.Axis.{Axis}
use Rattle.namespace_id.specs.declared.cells.Axis.TheVariants.{Row, Col}
use Rattle.namespace_id.specs.Lists.{ascending}
use Rattle.namespace_id.proofs.AscendingLemmas.{length-ascending, get_or-ascending}
use Rattle.axis_roots.specs.Messages.{position, index}
use Rattle.axis_roots.specs.Lines.{cell_on}
use Rattle.axis_roots.specs.Grids.{axis_cells}

-- the cell at a place of an axis is on it
pub index-cell_on : (axis : Axis) (i pos : ℕ) → index axis (cell_on axis i pos) ≡ i
index-cell_on Row i pos = refl
index-cell_on Col i pos = refl

-- and stands at that place
pub position-cell_on : (axis : Axis) (i pos : ℕ) → position axis (cell_on axis i pos) ≡ pos
position-cell_on Row i pos = refl
position-cell_on Col i pos = refl

-- a cell is the one at its position of its axis
pub cell_on-own : (axis : Axis) (cell : Cell) → cell_on axis (index axis cell) (position axis cell) ≡ cell
cell_on-own Row cell = refl
cell_on-own Col cell = refl

-- an axis has 2k cells
pub length-axis_cells : (k : ℕ) (axis : Axis) (i : ℕ) → length (axis_cells k axis i) ≡ 2 * k
unfolding axis_cells
length-axis_cells k axis i = length-map (ascending 0 (2 * k)) (cell_on axis i) ∙ length-ascending (2 * k) 0

-- the cell at one place
get_or-axis_cells : (k : ℕ) (axis : Axis) (i pos : ℕ) (d : Cell) → pos < 2 * k → get_or (axis_cells k axis i) pos d ≡ cell_on axis i pos
unfolding axis_cells
get_or-axis_cells k axis i pos d h =
    let start : 0 + pos ≡ pos = omega arith in
    get_or-map (cell_on axis i) (ascending 0 (2 * k)) pos 0 d (omega (arith, length-ascending (2 * k) 0))
    ∙ ap (cell_on axis i) (get_or-ascending (2 * k) 0 pos h ∙ start)

module _ {A : Type 0} where
  -- the value of one of the first numbers
  pub get_or-mapped : (f : ℕ → A) (n i : ℕ) (d : A) → i < n → get_or (map f (ascending 0 n)) i d ≡ f i
  get_or-mapped f n i d h =
      let start : 0 + i ≡ i = omega arith in
      get_or-map f (ascending 0 n) i 0 d (omega (arith, length-ascending n 0)) ∙ ap f (get_or-ascending n 0 i h ∙ start)

  -- the values at the cells of an axis: how many, and that at one place
  pub length-along : (k : ℕ) (f : Cell → A) (axis : Axis) (i : ℕ) → length (map f (axis_cells k axis i)) ≡ 2 * k
  length-along k f axis i = length-map (axis_cells k axis i) f ∙ length-axis_cells k axis i

  pub get_or-along : (k : ℕ) (f : Cell → A) (axis : Axis) (i pos : ℕ) (d : A) → pos < 2 * k → get_or (map f (axis_cells k axis i)) pos d ≡ f (cell_on axis i pos)
  get_or-along k f axis i pos d h =
      get_or-map f (axis_cells k axis i) pos (cell_on axis i pos) d (omega (arith, length-axis_cells k axis i))
      ∙ ap f (get_or-axis_cells k axis i pos (cell_on axis i pos) h)

  -- a list that has the values at the cells of an axis
  pub is_along : (k : ℕ) (f : Cell → A) (axis : Axis) (i : ℕ) (d : A) (xs : List A) → length xs ≡ 2 * k
      → ((pos : ℕ) → pos < 2 * k → get_or xs pos d ≡ f (cell_on axis i pos)) → xs ≡ map f (axis_cells k axis i)
  is_along k f axis i d xs long each =
      ext_get_or d xs (map f (axis_cells k axis i)) (long ∙ sym (length-along k f axis i)) (λ pos h.
      let within : pos < 2 * k = omega arith in
      each pos within ∙ sym (get_or-along k f axis i pos d within))

  -- values that are the same at the cells of an axis
  pub same_along : (k : ℕ) (f g : Cell → A) (axis : Axis) (i : ℕ) (d : A) → ((pos : ℕ) → pos < 2 * k → f (cell_on axis i pos) ≡ g (cell_on axis i pos))
      → map f (axis_cells k axis i) ≡ map g (axis_cells k axis i)
  same_along k f g axis i d each =
      is_along k g axis i d (map f (axis_cells k axis i)) (length-along k f axis i) (λ pos h. get_or-along k f axis i pos d h ∙ each pos h)
