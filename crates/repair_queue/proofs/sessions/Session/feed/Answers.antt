use Rattle.std.proofs.Common.{◌∙◌, [], ◌∷◌, ◌++◌, sym, subst}
use Rattle.axis_roots.specs.Proved.{kept_message}
use Rattle.repair_queue.specs.SessionParts.{SessionParts, SessionStands}
use Rattle.repair_queue.proofs.Feeding.SessionLemmas.{open_of, open_place}
use Rattle.repair_queue.proofs.Feeding.ViewLemmas.{step_stands, ended_stands}
use Rattle.repair_queue.proofs.sessions.Session.feed.Goals as goal

-- what ended it before is an answer with one sample more
pub returns-then-is_some-clause-stands : goal.returns-then-is_some-clause-stands
returns-then-is_some-clause-stands c = λ ms stand.
    subst (λ (s : SessionParts). SessionStands s (ms ++ kept_message c.args.message ∷ [])) c.self.view_is
    (ended_stands c.self.inside.header c.self.inside.board c.self.inside.tools c.self.inside.ended (kept_message c.args.message)
    (sym c.is_some.ensures ∙ c.if-is_some.true) c.self.invariant.open_board ms (subst (λ (s : SessionParts). SessionStands s ms) (sym c.self.view_is) stand))

-- nothing has ended it
pub step-requires-clause-good : goal.step-requires-clause-good
step-requires-clause-good c =
    (open_of c.self.inside.header c.self.inside.board c.self.inside.tools c.self.inside.ended (sym c.is_some.ensures ∙ c.if-is_some.false)
    c.self.invariant.open_board).0

pub step-requires-clause-tools : goal.step-requires-clause-tools
step-requires-clause-tools c =
    (open_of c.self.inside.header c.self.inside.board c.self.inside.tools c.self.inside.ended (sym c.is_some.ensures ∙ c.if-is_some.false)
    c.self.invariant.open_board).1

pub step-requires-clause-rest : goal.step-requires-clause-rest
step-requires-clause-rest c =
    (open_of c.self.inside.header c.self.inside.board c.self.inside.tools c.self.inside.ended (sym c.is_some.ensures ∙ c.if-is_some.false)
    c.self.invariant.open_board).2

-- and there is a place
pub step-requires-clause-place : goal.step-requires-clause-place
step-requires-clause-place c =
    open_place c.self.inside.board c.self.inside.ended (sym c.is_some.ensures ∙ c.if-is_some.false) c.self.invariant.capacity c.place_law.ensures

-- it stands for one sample more
pub returns-clause-stands : goal.returns-clause-stands
returns-clause-stands c = λ ms stand.
    step_stands c.self.inside.header c.self.inside.board c.step.new.board c.self.inside.tools c.step.new.tools c.self.inside.ended c.step.result
    (kept_message c.args.message) (sym c.is_some.ensures ∙ c.if-is_some.false) c.self.invariant.open_board c.step.ensures.steps ms
    (subst (λ (s : SessionParts). SessionStands s ms) (sym c.self.view_is) stand)
