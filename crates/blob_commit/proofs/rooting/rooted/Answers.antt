use Rattle.std.proofs.Common.{ℕ, List, subst}
use Rattle.blob_commit.specs.Proofs.{RootedHolds}
use Rattle.blob_commit.specs.Refusals.{has_rooted_shape, is_rooted_led, sample_refusal}
use Rattle.blob_commit.proofs.RootedRefusalLemmas.{path_by}
use Rattle.blob_commit.proofs.rooting.rooted.Goals as goal

pub returns-clause-path : goal.returns-clause-path
returns-clause-path c =
    path_by c.judge.result (has_rooted_shape c.args.proof.now) (is_rooted_led c.args.root.now c.args.proof.now) (sample_refusal c.args.proof.now) c.judge.ensures.first

pub returns-clause-own : goal.returns-clause-own
returns-clause-own c = λ header e ok.
    c.commit_laws.ensures.rooted header c.args.proof.now c.rooted_law.ensures (subst (λ (root : List ℕ). RootedHolds root c.args.proof.now) e (c.judge.ensures.accepts.0 ok))
