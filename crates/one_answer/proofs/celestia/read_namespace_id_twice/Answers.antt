use Rattle.std.proofs.Common.{refl}
use Rattle.one_answer.proofs.MessageLemmas.{one_reading}
use Rattle.one_answer.proofs.celestia.read_namespace_id_twice.Goals as goal

pub returns : goal.returns
returns c =
    one_reading _ _ refl c.read_namespace_id-first.result c.read_namespace_id-second.result c.read_namespace_id-first.ensures.name c.read_namespace_id-second.ensures.name c.read_namespace_id-first.ensures.at c.read_namespace_id-second.ensures.at
