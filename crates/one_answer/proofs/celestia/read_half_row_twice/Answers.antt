use Rattle.one_answer.proofs.MessageLemmas.{one_message}
use Rattle.one_answer.proofs.celestia.read_half_row_twice.Goals as goal

pub returns : goal.returns
returns c = one_message _ c.read_half_row-first.result c.read_half_row-second.result c.read_half_row-first.ensures.half c.read_half_row-second.ensures.half c.read_half_row-first.ensures.at c.read_half_row-second.ensures.at
