use Rattle.blob_commit.proofs.RootedSampleLemmas.{sample_rooted}
use Rattle.blob_commit.proofs.laws.sample_laws.Goals as goal

pub returns : goal.returns
returns c = sample_rooted
