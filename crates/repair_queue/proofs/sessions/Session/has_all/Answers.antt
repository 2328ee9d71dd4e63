use Rattle.std.proofs.Common.{◌≡◌, sym, subst, List, true}
use Rattle.std.specs.Prelude.{◌↔◌}
use Rattle.namespace_id.specs.declared.cells.Cell.{Cell}
use Rattle.namespace_id.specs.Cells.{is_in_square}
use Rattle.axis_roots.specs.declared.message.messages.Message.{Message}
use Rattle.repair_queue.specs.declared.sessions.SessionState.TheVariants as state
use Rattle.repair_queue.specs.Closures.{Half}
use Rattle.repair_queue.specs.SessionParts.{SessionParts, SessionStands}
use Rattle.repair_queue.specs.Sessions.{session_state}
use Rattle.repair_queue.specs.Views.{parts_by}
use Rattle.repair_queue.proofs.Feeding.CoverageLemmas.{open_marks, rows_tell}
use Rattle.repair_queue.proofs.sessions.Session.has_all.Goals as goal

-- all cells are recoverable exactly where all rows are decided
pub returns : goal.returns
returns c =
    let is : session_state (parts_by c.self.inside.header c.self.inside.board c.self.inside.ended) ≡ state.Open =
    subst (λ (s : SessionParts). session_state s ≡ state.Open) (sym c.self.view_is) c.requires.open in
    subst
    (λ (s : SessionParts). (ms : List Message) → SessionStands s ms → (c.are_rows_marked.result ≡ true) ↔ ((cell : Cell) → is_in_square s.header.k cell ≡ true → Half s.header ms cell))
    c.self.view_is
    (rows_tell (parts_by c.self.inside.header c.self.inside.board c.self.inside.ended) c.self.inside.board.marks.k c.are_rows_marked.result
    (open_marks c.self.inside.header c.self.inside.board c.self.inside.tools c.self.inside.ended c.self.invariant.open_board is)
    c.self.inside.board.marks.row_count c.are_rows_marked.ensures is)
