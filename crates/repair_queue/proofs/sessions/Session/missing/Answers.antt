use Rattle.std.proofs.Common.{◌≡◌, ◌∙◌, ap, sym, subst}
use Rattle.data_header.specs.Headers.{Roots}
use Rattle.repair_queue.specs.declared.sessions.SessionState.TheVariants as state
use Rattle.repair_queue.specs.SessionParts.{SessionParts, SessionStands}
use Rattle.repair_queue.specs.Sessions.{session_state, AreLeft}
use Rattle.repair_queue.proofs.Feeding.FinishLemmas.{left_width, held_left}
use Rattle.repair_queue.proofs.Feeding.ViewLemmas.{stands_keeps}
use Rattle.repair_queue.proofs.sessions.Session.missing.Goals as goal

-- the room stays for the header's width
pub returns-clause-width : goal.returns-clause-width
returns-clause-width c =
    left_width c.self.inside.header c.self.inside.board c.self.inside.tools c.self.inside.ended c.self.invariant.open_board
    (subst (λ (s : SessionParts). session_state s ≡ state.Open) (sym c.self.view_is) c.requires.open) c.fill_unknown.new.room c.fill_unknown.ensures
    ∙ ap (λ (s : SessionParts). s.header.k) c.self.view_is ∙ sym c.requires.room

-- these are the cells that aren't recoverable
pub returns-clause-left : goal.returns-clause-left
returns-clause-left c = λ ms stand.
    subst (λ (h : Roots). AreLeft h ms c.fill_unknown.new.room) (ap (λ (s : SessionParts). s.header) c.self.view_is)
    (held_left c.self.inside.header c.self.inside.board c.self.inside.tools c.self.inside.ended c.self.invariant.open_board
    (subst (λ (s : SessionParts). session_state s ≡ state.Open) (sym c.self.view_is) c.requires.open) c.fill_unknown.new.room c.fill_unknown.ensures ms
    (stands_keeps c.self.inside.header c.self.inside.board c.self.inside.tools c.self.inside.ended c.self.invariant.open_board ms
    (subst (λ (s : SessionParts). SessionStands s ms) (sym c.self.view_is) stand)))
