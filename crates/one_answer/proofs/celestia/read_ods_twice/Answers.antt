use Rattle.one_answer.proofs.MessageLemmas.{one_message}
use Rattle.one_answer.proofs.celestia.read_ods_twice.Goals as goal

pub returns : goal.returns
returns c = one_message _ c.read_ods-first.result c.read_ods-second.result c.read_ods-first.ensures.square c.read_ods-second.ensures.square c.read_ods-first.ensures.at c.read_ods-second.ensures.at
