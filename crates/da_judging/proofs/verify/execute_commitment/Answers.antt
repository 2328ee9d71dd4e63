use Rattle.da_files.specs.Contents.{contents_of}
use Rattle.da_files.specs.Forms.{under_judged}
use Rattle.da_judging.specs.Verify.{answer_in}
use Rattle.da_judging.specs.VerifyCommitment.{VerifiesCommitment, VerifyCommitmentOf}
use Rattle.da_files.proofs.FormLemmas.{once_in, once_over}
use Rattle.da_judging.proofs.verify.execute_commitment.Goals as goal

-- the files are the header and the answer that were read
pub returns : goal.returns
returns g c =
    let files = contents_of c.args.files.now in
    let commitment = c.args.commitment.now in
    once_in (under_judged answer_in files) (VerifyCommitmentOf commitment files) c.in-Ok.ensures.judged
    (once_over _ _ _ c.in-Ok.ensures.header (once_over (VerifiesCommitment commitment c.in-Ok.read.0) _ _ c.in-Ok.ensures.answer
    (rw c.states_commitment-asked.ensures at c.verify.ensures)))
