-- verify HEADER ANSWER COMMITMENT: whether one answer is a proof of a commitment, and holds under a header.
use Rattle.std.specs.Prelude.{◌≡◌, ℕ, List, Bool, false}
use Rattle.std.specs.Str.{bytes_eq}
use Rattle.data_header.specs.Headers.{Roots}
use Rattle.da_status.specs.Outcome.{Relation}
use Rattle.da_judging.specs.declared.answers.Answer.{Answer}
use Rattle.da_judging.specs.declared.answers.Answer.TheVariants.{Message, Names, Fraud, Commit, Rooted}
use Rattle.da_files.specs.Contents.{header_file}
use Rattle.da_files.specs.Frames.{header_in}
use Rattle.da_files.specs.Forms.{Over}
use Rattle.da_judging.specs.Verify.{answer_file, answer_in}
use Rattle.da_judging.specs.VerifyFor.{VerifiesIf}

-- whether an answer is a commitment proof that states this commitment
abbrev pub states_commitment : List ℕ → Answer → Bool
states_commitment commitment (Message m) = false
states_commitment commitment (Names name answer) = false
states_commitment commitment (Fraud claim) = false
states_commitment commitment (Commit proof) = bytes_eq proof.commitment commitment
states_commitment commitment (Rooted proof) = false

-- the same in a plain equation: this is a commitment proof with this commitment
abbrev pub StatesCommitment : List ℕ → Answer → Type 0
StatesCommitment commitment (Message m) = ⊥
StatesCommitment commitment (Names name answer) = ⊥
StatesCommitment commitment (Fraud claim) = ⊥
StatesCommitment commitment (Commit proof) = proof.commitment ≡ commitment
StatesCommitment commitment (Rooted proof) = ⊥

-- the line and the status of an answer to a commitment under a header
abbrev pub VerifiesCommitment : List ℕ → Roots → Answer → Relation
VerifiesCommitment commitment header answer = VerifiesIf (states_commitment commitment answer) header answer

-- what verify answers to a HEADER and an ANSWER in their forms and to a COMMITMENT
abbrev pub VerifyCommitmentOf : List ℕ → List (List ℕ) → Relation
VerifyCommitmentOf commitment files =
    Over (header_in (header_file files))
    (λ header. Over (answer_in (answer_file files)) (λ answer. VerifiesCommitment commitment header answer))
