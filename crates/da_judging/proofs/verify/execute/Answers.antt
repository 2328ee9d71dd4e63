use Rattle.da_files.specs.Contents.{contents_of}
use Rattle.da_files.specs.Forms.{under_judged}
use Rattle.da_judging.specs.Verify.{answer_in, Verifies, VerifyOf}
use Rattle.da_files.proofs.FormLemmas.{once_in, once_over}
use Rattle.da_judging.proofs.verify.execute.Goals as goal

-- the files are the header and the answer that were read
pub returns : goal.returns
returns g c =
    let files = contents_of c.args.files.now in
    once_in (under_judged answer_in files) (VerifyOf files) c.in-Ok.ensures.judged
    (once_over _ _ _ c.in-Ok.ensures.header (once_over (Verifies c.in-Ok.read.0) _ _ c.in-Ok.ensures.answer c.verify.ensures))
