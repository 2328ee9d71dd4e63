use Rattle.std.proofs.Common.{subst}
use Rattle.data_header.specs.Headers.{Roots}
use Rattle.repair_queue.specs.Verdicts.{IsVerdict}
use Rattle.repair_queue.specs.Answers.{verdict_parts}
use Rattle.one_answer.proofs.sessions.finish_twice.Goals as goal

-- two verdicts on one list are alike
pub returns : goal.returns
returns c = λ ms stands stood.
    c.verdict_laws.ensures.order c.args.one.header ms ms (λ m listed proved. listed) (λ m listed proved. listed) _ _
    (c.finish-first.ensures.verdict ms stands)
    (subst (λ (header : Roots). IsVerdict header ms (verdict_parts c.finish-second.result)) c.requires.header (c.finish-second.ensures.verdict ms stood))
