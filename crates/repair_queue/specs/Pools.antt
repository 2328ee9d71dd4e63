-- Samples that were given, at most one for each cell along each axis: what is kept of which cell, and what a change
-- of it leaves.
use Rattle.std.specs.Prelude.{◌≡◌, ◌≢◌, ◌⊎◌, ℕ, ◌+◌, ◌*◌, ◌<◌, ◌≤◌, List, length, get_or, true, Option, Some, None, is_some}
use Rattle.namespace_id.specs.declared.cells.Cell.{Cell}
use Rattle.namespace_id.specs.declared.cells.Axis.{Axis}
use Rattle.namespace_id.specs.declared.cells.Axis.TheVariants.{Row, Col}
use Rattle.namespace_id.specs.Cells.{is_width}
use Rattle.axis_roots.specs.declared.message.proved.Proved.{Proved}
use Rattle.axis_roots.specs.Proved.{kept_message}
use Rattle.axis_roots.specs.Lines.{cell_on}
use Rattle.repair_queue.specs.Slots.{Kept}
use Rattle.repair_queue.specs.Places.{PlaceParts, cell_place}
use Rattle.repair_queue.specs.Counting.{count_from, sum_below}

-- a pool as contracts see it: the place of each cell's sample; an empty place, and behind it the samples and the places
-- that are free; these; and for how many there is capacity
pub record PoolParts : Type 0 where
  pub places : PlaceParts
  pub given : List (Option Proved)
  pub free : List ℕ
  pub capacity : ℕ

-- the samples at these places
abbrev pub slots_by : List (Option Proved) → (Axis → Cell → ℕ) → Kept
slots_by given place axis cell = get_or given (place axis cell) None

-- the sample that is kept of a cell along an axis, if one is
abbrev pub slot_in : PoolParts → Kept
slot_in p = slots_by p.given (cell_place p.places)

-- how many samples along an axis are kept of the cells of a row
abbrev pub samples_along : ℕ → Kept → Axis → ℕ → ℕ
samples_along k slot axis row = count_from (λ col. is_some (slot axis (cell_on Row row col))) 0 (2 * k)

-- how many samples are kept of the cells of a row
abbrev pub samples_of_row : ℕ → Kept → ℕ → ℕ
samples_of_row k slot row = samples_along k slot Row row + samples_along k slot Col row

-- how many samples are kept of all cells
abbrev pub samples_of_all : ℕ → Kept → ℕ
samples_of_all k slot = sum_below (samples_of_row k slot) (2 * k)

-- places that may be used again: they are there, the first isn't among them, they differ, and none is a cell's
pub record AreFree (count : ℕ) (place : Axis → Cell → ℕ) (free : List ℕ) : Type 0 where
  pub within : (i : ℕ) → i < length free → get_or free i 0 < count
  pub some : (i : ℕ) → i < length free → get_or free i 0 ≢ 0
  pub apart : (i j : ℕ) → i < j → j < length free → get_or free i 0 ≢ get_or free j 0
  pub unled : (i : ℕ) (axis : Axis) (cell : Cell) → i < length free → place axis cell ≢ get_or free i 0

-- a sample is stored at a place that was free, or behind all others where none was
pub record IsStored (given new : List (Option Proved)) (free left : List ℕ) (kept : Proved) (place : ℕ) : Type 0 where
  pub here : get_or new place None ≡ Some kept
  pub others : (i : ℕ) → i < length given → i ≢ place → get_or new i None ≡ get_or given i None
  pub within : place < length new
  pub longer : length given ≤ length new
  pub count : length new + length free ≡ length given + length left + 1
  pub full : (length new ≡ length given) ⊎ (length left ≡ 0)
  pub unled : (i : ℕ) → i < length given → ((j : ℕ) → j < length free → i ≢ get_or free j 0) → i ≢ place
  pub were : (i : ℕ) → i < length left → (i < length free) × (get_or left i 0 ≡ get_or free i 0)
  pub apart : ((i j : ℕ) → i < j → j < length free → get_or free i 0 ≢ get_or free j 0) → (i : ℕ) → i < length left → get_or left i 0 ≢ place

-- each sample is kept at its own cell along its own axis
abbrev pub AreAtHome : Kept → Type 0
AreAtHome slot = (axis : Axis) (cell : Cell) (kept : Proved) → slot axis cell ≡ Some kept
    → ((kept_message kept).axis ≡ axis) × ((kept_message kept).cell ≡ cell)

-- behind the empty place are the samples that are kept, each at home, fewer than 2k of the cells of each row, and the
-- places that are left; so there are at most as many places as cells, and there is room for each that comes to be free
pub record IsPool (k : ℕ) (place : Axis → Cell → ℕ) (given : List (Option Proved)) (left : List ℕ) (room : ℕ) : Type 0 where
  pub width : is_width k ≡ true
  pub leads : (axis : Axis) (cell : Cell) → place axis cell < length given
  pub first : get_or given 0 None ≡ None
  pub home : AreAtHome (slots_by given place)
  pub free : AreFree (length given) place left
  pub used : length given ≡ 1 + samples_of_all k (slots_by given place) + length left
  pub few : (row : ℕ) → row < 2 * k → samples_of_row k (slots_by given place) row < 2 * k
  pub most : length given ≤ 2 * k * (2 * k)
  pub free_capacity : 2 * k * (2 * k) ≤ room

-- where no place is free there is capacity for one more
abbrev pub HasPlace : PoolParts → Type 0
HasPlace p = length p.free ≡ 0 → length p.given < p.capacity

-- there is capacity for as many places as there are cells
abbrev pub HasFullCapacity : PoolParts → Type 0
HasFullCapacity p = 2 * p.places.k * (2 * p.places.k) ≤ p.capacity

-- one that had such capacity has it still
abbrev pub KeepsCapacity : PoolParts → PoolParts → Type 0
KeepsCapacity old new = HasFullCapacity old → HasFullCapacity new
