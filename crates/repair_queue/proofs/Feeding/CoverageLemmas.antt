-- Sessions that have come to the whole square.
use Rattle.std.proofs.Common.{◌≡◌, ◌∙◌, ℕ, ◌*◌, ◌<◌, List, length, Bool, true, false, sym, ap, arith}
use Rattle.std.specs.Prelude.{◌↔◌, ◌||◌, Option, Some, None, is_some}
use Rattle.std.specs.List.{list_all}
use Rattle.std.proofs.lemmas.List.Elements.{All-from_get_or}
use Rattle.std.proofs.lemmas.List.Sums.{AllPass-from_list_all, list_all-from_AllPass}
use Rattle.namespace_id.specs.declared.cells.Cell.{Cell}
use Rattle.namespace_id.specs.declared.cells.Axis.TheVariants.{Row, Col}
use Rattle.namespace_id.specs.Cells.{is_in_square}
use Rattle.namespace_id.proofs.NumberLemmas.{inside}
use Rattle.data_header.specs.Headers.{Roots}
use Rattle.axis_roots.specs.declared.message.messages.Message.{Message}
use Rattle.repair_queue.specs.declared.boards.Board.{Board}
use Rattle.repair_queue.specs.declared.tools.Tools.{Tools}
use Rattle.repair_queue.specs.declared.ending.Ending.{Ending}
use Rattle.repair_queue.specs.declared.ending.Ending.TheVariants as ended
use Rattle.repair_queue.specs.declared.sessions.SessionState.TheVariants as state
use Rattle.repair_queue.specs.Closures.{Half}
use Rattle.repair_queue.specs.OpenBoards.{IsOpenBoard}
use Rattle.repair_queue.specs.SessionParts.{SessionParts, message_kept, marks_of, SessionStands}
use Rattle.repair_queue.specs.Views.{end_of}
use Rattle.repair_queue.specs.Sessions.{state_by, session_state}
use Rattle.repair_queue.proofs.Facts.SessionLawLemmas.{open_stands_open}
use Rattle.repair_queue.proofs.Facts.VerdictLemmas.{all_decided}

-- the marks of an open board are for the header's width
pub open_marks : (header : Roots) (b : Board) (tools : Tools) (end : Option Ending) → IsOpenBoard header b tools end → state_by (end_of end) ≡ state.Open
    → b.marks.k ≡ header.k
open_marks header b tools None held is = held.0.parts.marks_width ∙ sym held.0.width
open_marks header b tools (Some (ended.Fraud proof)) held is = absurd cc
open_marks header b tools (Some (ended.Clash clash)) held is = absurd cc

module _ (s : SessionParts) (ms : List Message) (is : session_state s ≡ state.Open) (stand : SessionStands s ms) where
  -- where all rows are decided all cells are recoverable
  pub rows_all : ((i : ℕ) → i < 2 * s.header.k → marks_of s Row i ≡ true) → (cell : Cell) → is_in_square s.header.k cell ≡ true → Half s.header ms cell
  rows_all rows cell within =
      let row : marks_of s Row cell.row ≡ true = rows cell.row (inside s.header.k cell within).0 in
      ((open_stands_open s ms is stand).known cell within).0
      (ap (λ (b : Bool). (b || marks_of s Col cell.col) || is_some (message_kept s Row cell) || is_some (message_kept s Col cell)) row)

  -- and where all cells are recoverable all rows are decided
  pub all_rows : ((cell : Cell) → is_in_square s.header.k cell ≡ true → Half s.header ms cell) → (i : ℕ) → i < 2 * s.header.k → marks_of s Row i ≡ true
  all_rows all i h = ((open_stands_open s ms is stand).decided Row i h).1 (all_decided s.header ms all Row i h)

-- a test that tells whether all rows are decided tells whether all cells are recoverable
pub rows_tell : (s : SessionParts) (k : ℕ) (test : Bool) → k ≡ s.header.k → length s.row_marks ≡ 2 * k → test ≡ list_all (λ is_set. is_set) s.row_marks
    → session_state s ≡ state.Open → (ms : List Message) → SessionStands s ms
    → (test ≡ true) ↔ ((cell : Cell) → is_in_square s.header.k cell ≡ true → Half s.header ms cell)
rows_tell s k test width long tells is ms stand = (
  λ told. rows_all s ms is stand
      (λ i h. AllPass-from_list_all (λ is_set. is_set) s.row_marks (sym tells ∙ told) i false (omega (arith, h, width, long))),
  λ halves.
      tells ∙ list_all-from_AllPass (λ is_set. is_set) s.row_marks
      (All-from_get_or (λ is_set. is_set ≡ true) s.row_marks false (λ i h. all_rows s ms is stand halves i (omega (arith, h, width, long)))),
)
