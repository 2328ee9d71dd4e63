-- A session as contracts see it, and for which samples it stands (docs/RULES.md, "Closures and verdicts").
use Rattle.std.specs.Prelude.{◌≡◌, ◌↔◌, ℕ, ◌*◌, ◌<◌, List, get_or, Bool, true, false, ◌||◌, Option, Some, None, is_some}
use Rattle.std.specs.List.{Contains}
use Rattle.namespace_id.specs.declared.cells.Cell.{Cell}
use Rattle.namespace_id.specs.declared.cells.Axis.{Axis}
use Rattle.namespace_id.specs.declared.cells.Axis.TheVariants.{Row, Col}
use Rattle.namespace_id.specs.declared.shares.Share.{Share}
use Rattle.namespace_id.specs.Cells.{is_in_square}
use Rattle.data_header.specs.Headers.{Roots}
use Rattle.axis_roots.specs.declared.message.messages.Message.{Message}
use Rattle.axis_roots.specs.Openings.{IsProved}
use Rattle.axis_roots.specs.Grids.{share_at}
use Rattle.axis_roots.specs.Claims.{ClaimParts}
use Rattle.repair_queue.specs.Closures.{Half, Fact, IsDecided}
use Rattle.repair_queue.specs.Settled.{IsSettled}
use Rattle.repair_queue.specs.Verdicts.{IsFraud, IsFoundClash}
use Rattle.repair_queue.specs.Slots.{Flags, flags_of}
use Rattle.repair_queue.specs.Places.{places_in}

-- what ended a session, if anything did: a fraud claim, or two strings with one SHA-256 digest
pub data SessionEnd : Type 0 where
  going : SessionEnd
  accused : (claim : ClaimParts) → SessionEnd
  collided : (left right : List ℕ) → SessionEnd

-- a session: its header; an empty place, and behind it the samples that it keeps and places that are free, with the place of
-- each cell's sample along its row and along its column, row-major; the rows and the columns that it decided; a share for
-- each cell, row-major; and what ended it
pub record SessionParts : Type 0 where
  pub header : Roots
  pub kept : List (Option Message)
  pub row_places : List ℕ
  pub col_places : List ℕ
  pub row_marks : List Bool
  pub col_marks : List Bool
  pub shares : List Share
  pub ended : SessionEnd

-- the sample that is kept of a cell along an axis, if one is
abbrev pub message_kept : SessionParts → Axis → Cell → Option Message
message_kept s axis cell = get_or s.kept (places_in s.header.k s.row_places s.col_places axis cell) None

-- the rows and columns that were decided
abbrev pub marks_of : SessionParts → Flags
marks_of s = flags_of s.row_marks s.col_marks

-- whether a cell lies on a decided row or column
abbrev pub is_decided : SessionParts → Cell → Bool
is_decided s cell = marks_of s Row cell.row || marks_of s Col cell.col

-- whether a cell is known: it lies on a decided row or column, or a sample of it is kept
abbrev pub is_known : SessionParts → Cell → Bool
is_known s cell = is_decided s cell || is_some (message_kept s Row cell) || is_some (message_kept s Col cell)

-- the share that is kept for a cell on a decided row or column
abbrev pub line_share : SessionParts → Cell → Share
line_share s cell = share_at (2 * s.header.k) s.shares cell

-- a proved sample of a list that shows a cell
pub record IsShownBy (header : Roots) (ms : List Message) (cell : Cell) (m : Message) : Type 0 where
  pub listed : Contains ms m
  pub proved : IsProved header m
  pub cell_is : m.cell ≡ cell

-- a sample of a cell is kept that shows this share
abbrev pub KeepsShare : SessionParts → Cell → Share → Type 0
KeepsShare s cell share = (axis : Axis) × (m : Message) × (message_kept s axis cell ≡ Some m) × (m.share ≡ share)

-- nothing has ended it. The known cells of the square are the recoverable ones. The samples are settled; exactly the
-- rows and columns with k recoverable cells are decided; and the share that is kept for a cell of one is what the facts
-- hold there. Of each other cell exactly the shares are kept that proved samples show, each with such a sample.
pub record StandsOpen (s : SessionParts) (ms : List Message) : Type 0 where
  pub known : (cell : Cell) → is_in_square s.header.k cell ≡ true → (is_known s cell ≡ true) ↔ Half s.header ms cell
  pub settled : IsSettled s.header ms
  pub decided : (axis : Axis) (i : ℕ) → i < 2 * s.header.k
      → (marks_of s axis i ≡ true) ↔ IsDecided s.header ms axis i
  pub shares : (cell : Cell) → is_in_square s.header.k cell ≡ true → is_decided s cell ≡ true
      → Fact s.header ms cell (line_share s cell)
  pub kept : (axis : Axis) (cell : Cell) (m : Message) → is_decided s cell ≡ false → message_kept s axis cell ≡ Some m
      → IsShownBy s.header ms cell m
  pub shown : (cell : Cell) (m : Message) → is_decided s cell ≡ false → IsShownBy s.header ms cell m
      → KeepsShare s cell m.share

-- what ended it is an answer over these samples; where nothing did, it keeps what follows from them
abbrev pub StandsBy : SessionParts → List Message → SessionEnd → Type 0
StandsBy s ms going = StandsOpen s ms
StandsBy s ms (accused claim) = IsFraud s.header ms claim
StandsBy s ms (collided left right) = IsFoundClash s.header ms left right

-- a session stands for these samples
abbrev pub SessionStands : SessionParts → List Message → Type 0
SessionStands s ms = StandsBy s ms s.ended
