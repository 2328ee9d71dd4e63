use Rattle.da_serving.proofs.SampleLemmas.{have_samples}
use Rattle.da_serving.proofs.sample.ExtensionServer.law.Goals as goal

-- each cell of a square has a sample, which can be written
pub returns : goal.returns
returns c = λ square header own inside. have_samples header square own c.wire_laws.ensures.messages _ inside
