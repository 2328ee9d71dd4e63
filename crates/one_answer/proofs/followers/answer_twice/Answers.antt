use Rattle.std.proofs.Common.{sym}
use Rattle.one_answer.proofs.FollowLemmas.{one_answer}
use Rattle.one_answer.proofs.followers.answer_twice.Goals as goal

pub returns : goal.returns
returns g c = λ last is.
    one_answer _ _ c.answer-first.result c.answer-second.result c.answer-first.ensures.taken c.answer-second.ensures.taken
    (λ why n. c.answer-first.ensures.refused last is why n)
    (λ why n. rw (sym c.requires.same) (c.answer-second.ensures.refused last (rw c.requires.same is) why n))
