use Rattle.std.proofs.Common.{refl}
use Rattle.one_answer.proofs.MessageLemmas.{one_reading}
use Rattle.one_answer.proofs.celestia.read_sample_twice.Goals as goal

pub returns : goal.returns
returns c =
    one_reading _ _ refl c.read_sample-first.result c.read_sample-second.result c.read_sample-first.ensures.sample c.read_sample-second.ensures.sample c.read_sample-first.ensures.at c.read_sample-second.ensures.at
