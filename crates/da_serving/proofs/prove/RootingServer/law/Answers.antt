use Rattle.da_serving.proofs.ProveLemmas.{have_proofs}
use Rattle.da_serving.proofs.prove.RootingServer.law.Goals as goal

-- each cell of a square has a root proof, which can be written
pub returns : goal.returns
returns c = λ square header own inside.
    have_proofs header square own (λ m proved. c.sample_laws.ensures header square m own proved) c.wire_laws.ensures.rooted _ inside
