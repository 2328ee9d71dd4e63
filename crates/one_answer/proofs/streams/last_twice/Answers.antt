use Rattle.one_answer.proofs.StreamLemmas.{one_last}
use Rattle.one_answer.proofs.streams.last_twice.Goals as goal

pub returns : goal.returns
returns c = λ bytes stands stood. one_last _ _ c.last.result c.last-2.result (c.last.ensures bytes stands) (c.last-2.ensures bytes stood)
