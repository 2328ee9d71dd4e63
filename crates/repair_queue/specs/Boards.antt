-- What a session keeps of a square: samples that were given, shares of decided rows and columns, and counts.
use Rattle.std.specs.Prelude.{◌≡◌, ℕ, ◌+◌, ◌*◌, ◌<◌, ◌≤◌, List, length, get_or, Bool, true, false, ◌||◌, Option, Some, None, is_some, if◌then◌else◌}
use Rattle.std.specs.List.{Contains}
use Rattle.namespace_id.specs.declared.cells.Cell.{Cell}
use Rattle.namespace_id.specs.declared.cells.Axis.{Axis}
use Rattle.namespace_id.specs.declared.cells.Axis.TheVariants.{Row, Col}
use Rattle.namespace_id.specs.declared.shares.Share.{Share}
use Rattle.namespace_id.specs.declared.digests.Digest.{Digest}
use Rattle.namespace_id.specs.Cells.{is_in_square}
use Rattle.namespace_id.specs.Digests.{no_digest}
use Rattle.data_header.specs.Headers.{Roots}
use Rattle.axis_roots.specs.declared.message.messages.Message.{Message}
use Rattle.axis_roots.specs.declared.message.proved.Proved.{Proved}
use Rattle.axis_roots.specs.Openings.{IsProved}
use Rattle.axis_roots.specs.Proved.{kept_message}
use Rattle.axis_roots.specs.Lines.{blank, cell_on, entry}
use Rattle.axis_roots.specs.Grids.{share_at, leaf_over}
use Rattle.befp_maker.specs.Conflicts.{IsLineOf}
use Rattle.repair_queue.specs.declared.marks.Marks.{Marks}
use Rattle.repair_queue.specs.declared.boards.Board.{Board}
use Rattle.repair_queue.specs.Closures.{Fact}
use Rattle.repair_queue.specs.Settled.{along}
use Rattle.repair_queue.specs.Slots.{Kept, Flags, flags_of}
use Rattle.repair_queue.specs.Repairs.{Shows, IsSlotted}
use Rattle.repair_queue.specs.Pools.{slot_in}
use Rattle.repair_queue.specs.Counts.{Numbers, count_of, pending}
use Rattle.repair_queue.specs.Counting.{count_from}

-- the marks of rows and columns as flags
abbrev pub mark_of : Marks → Flags
mark_of m = flags_of m.rows.items m.cols.items

-- a share for each cell
abbrev pub Shared : Type 0
Shared = Cell → Share

-- what a board keeps: samples that were given, decided rows and columns, and the shares of the cells on them
abbrev pub given_of : Board → Kept
given_of b = slot_in b.pool

abbrev pub decided_of : Board → Flags
decided_of b = mark_of b.marks

abbrev pub shared_of : Board → Shared
shared_of b = share_at (2 * b.grid.k) b.grid.shares

-- whether the row or the column of a cell is decided
abbrev pub is_lined : Flags → Cell → Bool
is_lined flag cell = flag Row cell.row || flag Col cell.col

-- whether a cell is known: it lies on a decided row or column, or a sample of it is kept
abbrev pub is_found : Kept → Flags → Cell → Bool
is_found slot flag cell = is_lined flag cell || is_some (slot Row cell) || is_some (slot Col cell)

-- how many of the first n cells of a row or a column are known
abbrev pub found_count : Kept → Flags → Axis → ℕ → ℕ → ℕ
found_count slot flag axis i n = count_from (λ pos. is_found slot flag (cell_on axis i pos)) 0 n

-- the share that the first of two samples shows, blank where there is none
abbrev pub share_of_first : Option Proved → Option Proved → Share
share_of_first (Some kept) slot = (kept_message kept).share
share_of_first None (Some kept) = (kept_message kept).share
share_of_first None None = blank

-- a share that is known of a cell: that of its decided row or column, else that which a sample shows
abbrev pub found_share : Kept → Flags → Shared → Cell → Share
found_share slot flag shares cell =
    if is_lined flag cell then shares cell else share_of_first (slot Row cell) (slot Col cell)

-- where the cells of a row or a column lie on decided ones, a line has their shares
abbrev pub AreAlikeLined : ℕ → Flags → Shared → Axis → ℕ → List Share → Type 0
AreAlikeLined k flag shares axis i line = (pos : ℕ) → pos < 2 * k → is_lined flag (cell_on axis i pos) ≡ true
    → shares (cell_on axis i pos) ≡ entry line pos

-- of each row and column that isn't decided fewer than k cells are known
abbrev pub AreAtRest : ℕ → Kept → Flags → Type 0
AreAtRest k slot flag = (axis : Axis) (i : ℕ) → i < 2 * k → flag axis i ≡ false → found_count slot flag axis i (2 * k) < k

-- ---- of the fields alone

-- samples are proved under the header and kept at their cells, and the shares along a decided row or column are a
-- codeword whose strict root is the header's
pub record IsSound (header : Roots) (slot : Kept) (flag : Flags) (shares : Shared) : Type 0 where
  pub slotted : (axis : Axis) (cell : Cell) (kept : Proved) → slot axis cell ≡ Some kept → IsSlotted header axis cell kept
  pub lines : (axis : Axis) (i : ℕ) → i < 2 * header.k → flag axis i ≡ true → IsLineOf header axis i (along header.k shares axis i)

-- the first so many digests are those of these leaves
abbrev pub AreLeavesTo : List Digest → ℕ → List Digest → Type 0
AreLeavesTo leaves n digests = (pos : ℕ) → pos < n → get_or digests pos no_digest ≡ get_or leaves pos no_digest

-- the digests of the leaves over the cells of decided rows and columns
abbrev pub AreLeavesOf : ℕ → Flags → List Share → List Digest → Type 0
AreLeavesOf k flag shares leaves = (cell : Cell) → is_in_square k cell ≡ true → is_lined flag cell ≡ true
    → get_or leaves (cell.row * (2 * k) + cell.col) no_digest ≡ leaf_over k shares cell

-- all parts of a board are for one width
pub record AreParts (b : Board) : Type 0 where
  pub pool_width : b.pool.places.k ≡ b.grid.k
  pub marks_width : b.marks.k ≡ b.grid.k
  pub counts_width : b.counts.k ≡ b.grid.k
  pub digests : length b.leaves.items ≡ 2 * b.grid.k * (2 * b.grid.k)

-- the cells that are known of each row and column that isn't decided are counted
abbrev pub AreCounted : ℕ → Kept → Flags → Numbers → Type 0
AreCounted k slot flag counts = (axis : Axis) (i : ℕ) → i < 2 * k → flag axis i ≡ false
    → counts axis i ≡ found_count slot flag axis i (2 * k)

-- and with k it waits to be decided
abbrev pub AreWaiting : ℕ → Flags → Numbers → List (Axis × ℕ) → Type 0
AreWaiting k flag counts queue = (axis : Axis) (i : ℕ) → i < 2 * k → flag axis i ≡ false → k ≤ counts axis i
    → Contains queue (axis, i)

-- what holds of a board after each step
pub record IsGood (header : Roots) (b : Board) : Type 0 where
  pub width : header.k ≡ b.grid.k
  pub parts : AreParts b
  pub sound : IsSound header (given_of b) (decided_of b) (shared_of b)
  pub leaves : AreLeavesOf header.k (decided_of b) b.grid.shares b.leaves.items
  pub counted : AreCounted header.k (given_of b) (decided_of b) (count_of b.counts)
  pub queued : AreWaiting header.k (decided_of b) (count_of b.counts) (pending b.counts)

-- ---- of the fields and the samples

-- what is kept stands for samples: of cells on no decided row or column only these are kept, the shares of decided rows
-- and columns are facts, and each proved sample's share is that of its decided row or column, or is shown by one that is
-- kept
pub record Stands (header : Roots) (ms : List Message) (slot : Kept) (flag : Flags) (shares : Shared) : Type 0 where
  pub fed : (axis : Axis) (cell : Cell) (kept : Proved) → is_lined flag cell ≡ false → slot axis cell ≡ Some kept
      → Contains ms (kept_message kept)
  pub facts : (axis : Axis) (i pos : ℕ) → i < 2 * header.k → pos < 2 * header.k → flag axis i ≡ true
      → Fact header ms (cell_on axis i pos) (shares (cell_on axis i pos))
  pub lined : (m : Message) → Contains ms m → IsProved header m → is_lined flag m.cell ≡ true → shares m.cell ≡ m.share
  pub shown : (m : Message) → Contains ms m → IsProved header m → is_lined flag m.cell ≡ false
      → (axis : Axis) × Shows (slot axis m.cell) m.share

-- what a board keeps stands for these samples
abbrev pub HoldsFor : Roots → List Message → Board → Type 0
HoldsFor header ms b = Stands header ms (given_of b) (decided_of b) (shared_of b)
