-- Keeping the line of a row or a column: what is counted, what is written, and which samples are taken out.
use Rattle.std.specs.Prelude.{◌≡◌, ◌≢◌, ◌⊎◌, ℕ, ◌+◌, ◌*◌, ◌<◌, ◌≤◌, List, get_or, true, not, None}
use Rattle.namespace_id.specs.declared.cells.Cell.{Cell}
use Rattle.namespace_id.specs.declared.cells.Axis.{Axis}
use Rattle.namespace_id.specs.declared.shares.Share.{Share}
use Rattle.namespace_id.specs.declared.digests.Digest.{Digest}
use Rattle.namespace_id.specs.Cells.{is_in_square, crossing}
use Rattle.namespace_id.specs.Digests.{no_digest}
use Rattle.data_header.specs.Headers.{Roots}
use Rattle.axis_roots.specs.declared.message.messages.Message.{Message}
use Rattle.axis_roots.specs.Messages.{index}
use Rattle.axis_roots.specs.Lines.{cell_on, entry}
use Rattle.repair_queue.specs.Slots.{Kept, Flags}
use Rattle.repair_queue.specs.Counting.{one_if}
use Rattle.repair_queue.specs.Counts.{Numbers, AreQueued}
use Rattle.repair_queue.specs.declared.boards.Board.{Board}
use Rattle.repair_queue.specs.Lines.{AreFacts}
use Rattle.repair_queue.specs.Boards.{Shared, is_found, IsGood, HoldsFor}
use Rattle.repair_queue.specs.Judging.{IsAlikeAt}

-- no share that is known of a cell of a row or a column is another one than the line's
abbrev pub IsAlikeAll : ℕ → Kept → Flags → Shared → Axis → ℕ → List Share → Type 0
IsAlikeAll k slot flag shares axis i line = (pos : ℕ) → pos < 2 * k → IsAlikeAt slot flag shares (cell_on axis i pos) (entry line pos)

-- the unknown ones of the first n cells of a row or a column are counted for those that cross it, and those that came to have k wait
pub record IsCountedTo (k : ℕ) (slot : Kept) (flag : Flags) (axis : Axis) (i : ℕ) (old new : Numbers) (before after : List (Axis × ℕ)) (n : ℕ) : Type 0 where
  pub across : (pos : ℕ) → pos < n → new (crossing axis) pos ≡ old (crossing axis) pos + one_if (not (is_found slot flag (cell_on axis i pos)))
  pub later : (pos : ℕ) → n ≤ pos → new (crossing axis) pos ≡ old (crossing axis) pos
  pub own : (j : ℕ) → new axis j ≡ old axis j
  pub queued : AreQueued k old new before after

-- the first n digests of the leaves of a line stand along its row or column, and all those off it are as they were
pub record AreWrittenLeaves (k : ℕ) (old new : List Digest) (axis : Axis) (i : ℕ) (digests : List Digest) (n : ℕ) : Type 0 where
  pub here : (pos : ℕ) → pos < n
      → get_or new ((cell_on axis i pos).row * (2 * k) + (cell_on axis i pos).col) no_digest ≡ get_or digests pos no_digest
  pub elsewhere : (cell : Cell) → is_in_square k cell ≡ true → index axis cell ≢ i
      → get_or new (cell.row * (2 * k) + cell.col) no_digest ≡ get_or old (cell.row * (2 * k) + cell.col) no_digest

-- both slots of a cell are empty, and no other changed
pub record IsClearedAt (old new : Kept) (cell : Cell) : Type 0 where
  pub here : (own : Axis) → new own cell ≡ None
  pub elsewhere : (own : Axis) (d : Cell) → (d ≡ cell → ⊥) → new own d ≡ old own d

-- the slots of the first n cells of a row or a column are empty, and none off it changed
pub record IsClearedTo (old new : Kept) (axis : Axis) (i n : ℕ) : Type 0 where
  pub here : (own : Axis) (pos : ℕ) → pos < n → new own (cell_on axis i pos) ≡ None
  pub each : (own : Axis) (cell : Cell) → (new own cell ≡ old own cell) ⊎ ((index axis cell ≡ i) × (new own cell ≡ None))

-- a row or a column is kept: the board is good, and stands for each list for which its line is made of facts
abbrev pub IsLineKept : Roots → Board → Board → Axis → ℕ → List Share → Type 0
IsLineKept header s t axis i line =
    IsGood header t × ((ms : List Message) → AreFacts header ms axis i line → HoldsFor header ms s → HoldsFor header ms t)
