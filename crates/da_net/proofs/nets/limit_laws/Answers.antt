use Rattle.da_net.proofs.LimitLemmas.{limits_are}
use Rattle.da_net.proofs.nets.limit_laws.Goals as goal

pub returns : goal.returns
returns c = record { most = limits_are }
