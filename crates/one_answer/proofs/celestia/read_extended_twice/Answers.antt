use Rattle.one_answer.proofs.MessageLemmas.{one_message}
use Rattle.one_answer.proofs.celestia.read_extended_twice.Goals as goal

pub returns : goal.returns
returns c = one_message _ c.read_extended-first.result c.read_extended-second.result c.read_extended-first.ensures.extended c.read_extended-second.ensures.extended c.read_extended-first.ensures.at c.read_extended-second.ensures.at
