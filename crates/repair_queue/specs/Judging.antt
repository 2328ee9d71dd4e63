-- A share beside those that are known of a cell.
use Rattle.std.specs.Prelude.{◌≡◌, ◌≢◌, ◌⊎◌, ℕ, ◌*◌, ◌<◌, List, length, get_or, true, false, Option, Some, None}
use Rattle.namespace_id.specs.declared.cells.Cell.{Cell}
use Rattle.namespace_id.specs.declared.cells.Axis.{Axis}
use Rattle.namespace_id.specs.declared.shares.Share.{Share}
use Rattle.data_header.specs.Headers.{Roots}
use Rattle.axis_roots.specs.declared.message.proved.Proved.{Proved}
use Rattle.axis_roots.specs.Proved.{kept_message, IsUnder}
use Rattle.axis_roots.specs.Lines.{cell_on, entry}
use Rattle.repair_queue.specs.declared.boards.Board.{Board}
use Rattle.repair_queue.specs.Slots.{Kept, Flags, IsApart, IsAlike}
use Rattle.repair_queue.specs.Boards.{Shared, is_lined, is_found, found_share, IsSound, given_of, decided_of, shared_of}

-- no other share is known of the cell
pub record IsAlikeAt (slot : Kept) (flag : Flags) (shares : Shared) (cell : Cell) (share : Share) : Type 0 where
  pub lined : is_lined flag cell ≡ true → shares cell ≡ share
  pub given : is_lined flag cell ≡ false → (along : Axis) → IsAlike (slot along cell) share

-- the share of its decided row or column is another one, or a sample shows another one
abbrev pub IsApartAt : Kept → Flags → Shared → Cell → Share → Type 0
IsApartAt slot flag shares cell share =
    ((is_lined flag cell ≡ true) × (shares cell ≢ share))
    ⊎ ((is_lined flag cell ≡ false) × ((along : Axis) × IsApart (slot along cell) share))

-- what is read of a board for what ends a session: it is sound, and its parts are for the header's width
pub record IsReadable (header : Roots) (b : Board) : Type 0 where
  pub width : header.k ≡ b.grid.k
  pub pool_width : b.pool.places.k ≡ b.grid.k
  pub marks_width : b.marks.k ≡ b.grid.k
  pub sound : IsSound header (given_of b) (decided_of b) (shared_of b)

-- at most samples of this cell were taken out
pub record IsTakenAt (old new : Board) (cell : Cell) : Type 0 where
  pub marks : new.marks ≡ old.marks
  pub grid : new.grid ≡ old.grid
  pub others : (axis : Axis) (d : Cell) → (d ≡ cell → ⊥) → given_of new axis d ≡ given_of old axis d

-- a sample of the cell that is proved under the header and shows another share: it is kept of a cell on no decided row
-- or column, or it shows the share of its decided one
pub record IsOtherMessage (header : Roots) (b : Board) (cell : Cell) (share : Share) (kept : Proved) : Type 0 where
  pub under : IsUnder header kept
  pub cell_is : (kept_message kept).cell ≡ cell
  pub other : (kept_message kept).share ≢ share
  pub known : ((is_lined (decided_of b) cell ≡ false) × ((axis : Axis) × (given_of b axis cell ≡ Some kept))) ⊎ ((is_lined (decided_of b) cell ≡ true) × ((kept_message kept).share ≡ shared_of b cell))

-- the position at which another share is known than the line's, if there is one
abbrev pub IsApartOrAlike : ℕ → Board → Axis → ℕ → List Share → Option ℕ → Type 0
IsApartOrAlike k b axis i line None =
    (pos : ℕ) → pos < 2 * k → IsAlikeAt (given_of b) (decided_of b) (shared_of b) (cell_on axis i pos) (entry line pos)
IsApartOrAlike k b axis i line (Some pos) =
    (pos < 2 * k) × IsApartAt (given_of b) (decided_of b) (shared_of b) (cell_on axis i pos) (entry line pos)

-- the cells of a row or a column at these positions are known
abbrev pub AreFoundAt : Kept → Flags → Axis → ℕ → List ℕ → Type 0
AreFoundAt slot flag axis i known = (j : ℕ) → j < length known → is_found slot flag (cell_on axis i (get_or known j 0)) ≡ true

-- and a line has the shares that are known of them
abbrev pub AreShownBy : Kept → Flags → Shared → Axis → ℕ → List ℕ → List Share → Type 0
AreShownBy slot flag shares axis i known line =
    (j : ℕ) → j < length known → found_share slot flag shares (cell_on axis i (get_or known j 0)) ≡ entry line (get_or known j 0)
