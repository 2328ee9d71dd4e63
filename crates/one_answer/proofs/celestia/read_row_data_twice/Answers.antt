use Rattle.one_answer.proofs.MessageLemmas.{one_message}
use Rattle.one_answer.proofs.celestia.read_row_data_twice.Goals as goal

pub returns : goal.returns
returns c = one_message _ c.read_row_data-first.result c.read_row_data-second.result c.read_row_data-first.ensures.entry c.read_row_data-second.ensures.entry c.read_row_data-first.ensures.at c.read_row_data-second.ensures.at
