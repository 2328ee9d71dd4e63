use Rattle.std.proofs.Common.{◌∙◌, [], ◌∷◌, ◌++◌, sym, subst}
use Rattle.axis_roots.specs.Proved.{kept_message}
use Rattle.repair_queue.specs.SessionParts.{SessionParts, SessionStands}
use Rattle.repair_queue.proofs.Places.GrownLemmas.{with_pool, grown_open, grown_parts}
use Rattle.repair_queue.proofs.Feeding.SessionLemmas.{open_of}
use Rattle.repair_queue.proofs.Feeding.ViewLemmas.{step_stands, ended_stands}
use Rattle.repair_queue.proofs.growing.GrowingSession.feed.Goals as goal

-- what ended it before is an answer with one sample more
pub returns-then-is_some-clause-stands : goal.returns-then-is_some-clause-stands
returns-then-is_some-clause-stands c = λ ms stand.
    subst (λ (s : SessionParts). SessionStands s (ms ++ kept_message c.args.message ∷ [])) c.self.view_is
    (ended_stands c.self.inside.header c.self.inside.board c.self.inside.tools c.self.inside.ended (kept_message c.args.message)
    (sym c.is_some.ensures ∙ c.if-is_some.true) c.self.invariant.open_board ms (subst (λ (s : SessionParts). SessionStands s ms) (sym c.self.view_is) stand))

-- where there is no memory, the same samples are kept
pub invariant_of-self : goal.invariant_of-self
invariant_of-self c = record {
  open_board = grown_open c.self.inside.header c.self.inside.board c.make_place.new.self c.make_place.ensures.kept c.self.inside.tools c.self.inside.ended
      c.self.invariant.open_board;
  cells = c.self.invariant.cells;
}

-- nothing has ended it
pub step-requires-clause-good : goal.step-requires-clause-good
step-requires-clause-good c =
    (open_of c.self.inside.header (with_pool c.self.inside.board c.make_place.new.self) c.self.inside.tools c.self.inside.ended (sym c.is_some.ensures ∙ c.if-is_some.false)
    (grown_open c.self.inside.header c.self.inside.board c.make_place.new.self c.make_place.ensures.kept c.self.inside.tools c.self.inside.ended c.self.invariant.open_board)).0

pub step-requires-clause-tools : goal.step-requires-clause-tools
step-requires-clause-tools c =
    (open_of c.self.inside.header c.self.inside.board c.self.inside.tools c.self.inside.ended (sym c.is_some.ensures ∙ c.if-is_some.false)
    c.self.invariant.open_board).1

-- it stands for one sample more
pub returns-clause-stands : goal.returns-clause-stands
returns-clause-stands c = λ ms stand.
    step_stands c.self.inside.header (with_pool c.self.inside.board c.make_place.new.self) c.step.new.board c.self.inside.tools c.step.new.tools c.self.inside.ended c.step.result
    (kept_message c.args.message) (sym c.is_some.ensures ∙ c.if-is_some.false)
    (grown_open c.self.inside.header c.self.inside.board c.make_place.new.self c.make_place.ensures.kept c.self.inside.tools c.self.inside.ended c.self.invariant.open_board)
    c.step.ensures.steps ms
    (subst (λ (s : SessionParts). SessionStands s ms)
    (sym (grown_parts c.self.inside.header c.self.inside.board c.make_place.new.self c.make_place.ensures.kept c.self.inside.ended ∙ c.self.view_is)) stand)
