use Rattle.std.proofs.Common.{refl}
use Rattle.one_answer.proofs.MessageLemmas.{one_reading}
use Rattle.one_answer.proofs.celestia.read_sample_id_twice.Goals as goal

pub returns : goal.returns
returns c =
    one_reading _ _ refl c.read_sample_id-first.result c.read_sample_id-second.result c.read_sample_id-first.ensures.cell c.read_sample_id-second.ensures.cell c.read_sample_id-first.ensures.at c.read_sample_id-second.ensures.at
