use Rattle.one_answer.proofs.MessageLemmas.{one_message}
use Rattle.one_answer.proofs.celestia.read_dah_twice.Goals as goal

pub returns : goal.returns
returns c = one_message _ c.read_dah-first.result c.read_dah-second.result c.read_dah-first.ensures.header c.read_dah-second.ensures.header c.read_dah-first.ensures.at c.read_dah-second.ensures.at
