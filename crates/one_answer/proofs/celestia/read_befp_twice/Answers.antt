use Rattle.one_answer.proofs.MessageLemmas.{one_message}
use Rattle.one_answer.proofs.celestia.read_befp_twice.Goals as goal

pub returns : goal.returns
returns c = one_message _ c.read_befp-first.result c.read_befp-second.result c.read_befp-first.ensures.claim c.read_befp-second.ensures.claim c.read_befp-first.ensures.at c.read_befp-second.ensures.at
