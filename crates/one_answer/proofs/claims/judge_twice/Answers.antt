use Rattle.one_answer.proofs.JudgeLemmas.{one_judgement}
use Rattle.one_answer.proofs.claims.judge_twice.Goals as goal

-- no claim has two causes
pub returns-clause-answer : goal.returns-clause-answer
returns-clause-answer c =
    one_judgement c.args.header.now c.args.claim.now c.judge-first.result c.judge-second.result c.judge-first.ensures.accepts c.judge-second.ensures.accepts
    c.judge-first.ensures.cause c.judge-second.ensures.cause
