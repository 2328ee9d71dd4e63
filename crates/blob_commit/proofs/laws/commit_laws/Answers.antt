use Rattle.blob_commit.proofs.RootedLemmas.{rooted_own}
use Rattle.blob_commit.proofs.CommitOwnLemmas.{commit_own}
use Rattle.blob_commit.proofs.laws.commit_laws.Goals as goal

pub returns : goal.returns
returns c = record { commit = commit_own; rooted = rooted_own }
