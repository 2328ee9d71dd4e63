use Rattle.blob_commit.proofs.AcceptLemmas.{holds_of, refused_for_nothing}
use Rattle.blob_commit.proofs.RootedRefusalLemmas.{rooted_holds_of, rooted_for_nothing}
use Rattle.blob_commit.proofs.UnledLemmas.{first_of}
use Rattle.blob_commit.proofs.UnopenedLemmas.{unopened_is}
use Rattle.blob_commit.proofs.laws.refusal_laws.Goals as goal

pub returns-clause-commit : goal.returns-clause-commit
returns-clause-commit c = λ root proof. (holds_of root proof, refused_for_nothing root proof)

pub returns-clause-rooted : goal.returns-clause-rooted
returns-clause-rooted c = λ root proof sized. (rooted_holds_of root proof sized, rooted_for_nothing root proof)

pub returns-clause-unled : goal.returns-clause-unled
returns-clause-unled c = first_of

pub returns-clause-unopened : goal.returns-clause-unopened
returns-clause-unopened c = unopened_is
