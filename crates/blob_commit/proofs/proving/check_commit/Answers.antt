use Rattle.std.proofs.Common.{ℕ, List, subst}
use Rattle.blob_commit.specs.Proofs.{CommitHolds}
use Rattle.blob_commit.specs.Refusals.{commit_refusal}
use Rattle.blob_commit.proofs.AcceptLemmas.{holds_of, refused_for_nothing, accepts_by}
use Rattle.blob_commit.proofs.proving.check_commit.Goals as goal

pub returns-clause-accepts : goal.returns-clause-accepts
returns-clause-accepts c =
    accepts_by c.judge.result (commit_refusal c.args.root.now c.args.proof.now) (CommitHolds c.args.root.now c.args.proof.now) c.judge.ensures
    (holds_of c.args.root.now c.args.proof.now) (refused_for_nothing c.args.root.now c.args.proof.now)

pub returns-clause-own : goal.returns-clause-own
returns-clause-own c = λ header e ok.
    let holds : CommitHolds c.args.root.now c.args.proof.now =
    (accepts_by c.judge.result (commit_refusal c.args.root.now c.args.proof.now) (CommitHolds c.args.root.now c.args.proof.now) c.judge.ensures
    (holds_of c.args.root.now c.args.proof.now) (refused_for_nothing c.args.root.now c.args.proof.now)).0 ok in
    c.commit_laws.ensures.commit header c.args.proof.now c.commit_law.ensures (subst (λ (root : List ℕ). CommitHolds root c.args.proof.now) e holds)
