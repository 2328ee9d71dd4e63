-- The samples of the two sessions of a trial (docs/FORMATS.md, "The trial of a number").
use Rattle.std.specs.Prelude.{◌≡◌, ◌≢◌, ℕ, ◌+◌, ◌-◌, ◌*◌, ◌%◌, ◌==◌, List, ◌++◌, map, reverse, filter, length, slice_index, slice_set, bit_xor, Bool, true, is_none, not, if◌then◌else◌}
use Rattle.namespace_id.specs.declared.cells.Cell.{Cell}
use Rattle.namespace_id.specs.declared.cells.Axis.{Axis}
use Rattle.namespace_id.specs.declared.cells.Axis.TheVariants.{Row, Col}
use Rattle.namespace_id.specs.declared.shares.Share.{Share}
use Rattle.namespace_id.specs.Cells.{is_in_square, all_cells}
use Rattle.namespace_id.specs.Lists.{ascending}
use Rattle.data_header.specs.Headers.{Roots}
use Rattle.axis_roots.specs.declared.message.messages.Message.{Message}
use Rattle.axis_roots.specs.Messages.{message_refusal}
use Rattle.axis_roots.specs.Grids.{share_at}
use Rattle.axis_roots.specs.Trees.{message_at}

-- a share whose last byte is xored with 1
abbrev pub spoiled : Share → Share
spoiled share = record { 0 = slice_set share.0 511 (bit_xor (slice_index share.0 511) 1) }

-- a sample that shows such a share instead of its own
abbrev pub spoiled_message : Message → Message
spoiled_message m = record m { share = spoiled m.share }

-- the samples of a list that are proved under a header, and those that aren't
abbrev pub proved_of : Roots → List Message → List Message
proved_of header ms = filter (λ m. is_none (message_refusal header m)) ms

abbrev pub refused_of : Roots → List Message → List Message
refused_of header ms = filter (λ m. not (is_none (message_refusal header m))) ms

-- ---- the first session: lies and half of the cells, under the header of the grid

-- the samples of the first cells of all odd rows, along their rows, with spoiled shares
abbrev pub lie_cell : ℕ → Cell
lie_cell i = record { row = 2 * i + 1; col = 0 }

abbrev pub lies_of : ℕ → List Share → List Message
lies_of k grid = map (λ i. spoiled_message (message_at k grid (lie_cell i) Row)) (ascending 0 k)

-- whether row and column of a cell add up to an even number
abbrev pub is_even : Cell → Bool
is_even cell = (cell.row + cell.col) % 2 == 0

-- such a cell is shown along its row where that is even, and else along its column
abbrev pub axis_of : Cell → Axis
axis_of cell = if cell.row % 2 == 0 then Row else Col

-- the samples of those among cells, each along its axis
abbrev pub half_among : ℕ → List Share → List Cell → List Message
half_among k grid cells = map (λ cell. message_at k grid cell (axis_of cell)) (filter is_even cells)

-- those among all cells, from the last one back
abbrev pub trial_half : ℕ → List Share → List Message
trial_half k grid = half_among k grid (reverse (all_cells k))

abbrev pub first_messages : ℕ → List Share → List Message
first_messages k grid = lies_of k grid ++ trial_half k grid

-- ---- the second session: a grid whose last row is no codeword, under its own header

-- the last cell of a square
abbrev pub last_cell : ℕ → Cell
last_cell k = record { row = 2 * k - 1; col = 2 * k - 1 }

-- a grid that differs in the last cell alone, whose share is spoiled
pub record IsCheat (k : ℕ) (grid other : List Share) : Type 0 where
  pub size : length other ≡ length grid
  pub last : share_at (2 * k) other (last_cell k) ≡ spoiled (share_at (2 * k) grid (last_cell k))
  pub others : (cell : Cell) → is_in_square k cell ≡ true → cell ≢ last_cell k
      → share_at (2 * k) other cell ≡ share_at (2 * k) grid cell

-- the samples of the first k cells of the last row, along their columns
abbrev pub low_cell : ℕ → ℕ → Cell
low_cell k col = record { row = 2 * k - 1; col = col }

abbrev pub second_messages : ℕ → List Share → List Message
second_messages k other = map (λ col. message_at k other (low_cell k col) Col) (ascending 0 k)
