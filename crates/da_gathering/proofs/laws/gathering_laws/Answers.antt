use Rattle.da_gathering.proofs.LieLemmas.{refuses_each_lie}
use Rattle.da_gathering.proofs.laws.gathering_laws.Goals as goal

pub returns : goal.returns
returns c = record { lies = refuses_each_lie c.wire_laws.ensures.files }
