use Rattle.repair_queue.specs.Answers.{verdict_parts}
use Rattle.repair_queue.proofs.Feeding.ViewLemmas.{finish_open, finish_ended}
use Rattle.repair_queue.proofs.sessions.Session.finish.Goals as goal

-- what the board answers
pub returns-clause-verdict : goal.returns-clause-verdict
returns-clause-verdict c = λ ms stand.
    finish_open c.self.inside.header c.self.inside.board c.self.inside.tools c.self.inside.ended _ c.self.view_is c.self.invariant.open_board ms stand
    (verdict_parts c.answer_open.result) c.in-None.is (c.answer_open.ensures.verdict ms)

-- what ended the session
pub returns-in-Some-clause-verdict : goal.returns-in-Some-clause-verdict
returns-in-Some-clause-verdict c = λ ms stand.
    finish_ended c.self.inside.header c.self.inside.board c.self.inside.tools c.self.inside.ended _ c.self.view_is c.self.invariant.open_board ms stand
    c.in-Some.ended c.answer_ended.result c.in-Some.is c.answer_ended.ensures.value
