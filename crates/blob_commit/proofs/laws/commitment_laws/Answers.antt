use Rattle.blob_commit.proofs.GreatestLemmas.{cut_is, one_cut, plain_root_is}
use Rattle.blob_commit.proofs.laws.commitment_laws.Goals as goal

pub returns-clause-cut : goal.returns-clause-cut
returns-clause-cut c = cut_is

pub returns-clause-one_cut : goal.returns-clause-one_cut
returns-clause-one_cut c = one_cut

pub returns-clause-root : goal.returns-clause-root
returns-clause-root c = plain_root_is
