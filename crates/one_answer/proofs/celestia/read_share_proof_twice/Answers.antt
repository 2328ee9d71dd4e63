use Rattle.std.proofs.Common.{refl}
use Rattle.one_answer.proofs.MessageLemmas.{one_reading}
use Rattle.one_answer.proofs.celestia.read_share_proof_twice.Goals as goal

pub returns : goal.returns
returns c =
    one_reading _ _ refl c.read_share_proof-first.result c.read_share_proof-second.result c.read_share_proof-first.ensures.proof c.read_share_proof-second.ensures.proof c.read_share_proof-first.ensures.at c.read_share_proof-second.ensures.at
