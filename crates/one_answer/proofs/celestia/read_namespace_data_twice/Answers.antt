use Rattle.one_answer.proofs.MessageLemmas.{one_message}
use Rattle.one_answer.proofs.celestia.read_namespace_data_twice.Goals as goal

pub returns : goal.returns
returns c = one_message _ c.read_namespace_data-first.result c.read_namespace_data-second.result c.read_namespace_data-first.ensures.answer c.read_namespace_data-second.ensures.answer c.read_namespace_data-first.ensures.at c.read_namespace_data-second.ensures.at
