use Rattle.da_wire.proofs.CuttingLemmas.{every_cutting, frames_stay}
use Rattle.da_wire.proofs.StreamLemmas.{kept_told}
use Rattle.da_wire.proofs.laws.stream_laws.Goals as goal

pub returns-clause-cutting : goal.returns-clause-cutting
returns-clause-cutting c = every_cutting

pub returns-clause-stay : goal.returns-clause-stay
returns-clause-stay c = frames_stay

pub returns-clause-last : goal.returns-clause-last
returns-clause-last c = kept_told
