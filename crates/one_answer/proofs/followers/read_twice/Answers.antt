use Rattle.one_answer.proofs.ReadLemmas.{one_read}
use Rattle.one_answer.proofs.followers.read_twice.Goals as goal

-- both are judged and read alike
pub returns : goal.returns
returns c =
    one_read _ _ c.read_answer-first.result c.read_answer-second.result c.read_answer-first.ensures.read c.read_answer-second.ensures.read
    c.read_answer-first.ensures.complete c.read_answer-second.ensures.complete c.read_answer-first.ensures.refused c.read_answer-second.ensures.refused
