use Rattle.std.proofs.Common.{◌∙◌, ◌∷◌, [], Err, refl, sym, ap}
use Rattle.da_files.specs.Contents.{contents_of}
use Rattle.da_files.specs.Frames.{error_of}
use Rattle.da_files.specs.Forms.{under_judged}
use Rattle.da_judging.specs.Verify.{answer_in}
use Rattle.da_judging.specs.VerifyFor.{request_in, request_file, verify_for_judged, VerifiesFor, VerifyForOf}
use Rattle.da_files.proofs.FormLemmas.{refused_once, refused_more, last_fine, last_bad, once_in, once_over}
use Rattle.da_judging.proofs.verify.execute_for.Goals as goal

pub returns-in-Err : goal.returns-in-Err
returns-in-Err g c =
    let files = contents_of c.args.files.now in
    refused_once (verify_for_judged files) (VerifyForOf files) _ _ _ _
    (refused_more (under_judged answer_in files) (error_of (request_in (request_file files)) ∷ []) _ c.in-Err.ensures.judged) refl

-- the third file is no request
pub returns-in-Err-BadForm : goal.returns-in-Err-BadForm
returns-in-Err-BadForm g c =
    let files = contents_of c.args.files.now in
    let third = rw (c.in-Err-BadForm.field-0-is, c.file.ensures) at c.in-Err-BadForm.ensures in
    refused_once (verify_for_judged files) (VerifyForOf files) _ _ _ _
    (last_bad 0 (under_judged answer_in files) (error_of (request_in (request_file files))) _ c.in-Ok.ensures.judged
    (ap error_of (third ∙ ap Err (sym c.in-Err-BadForm.at-is)))) refl

-- the files are those that were read
pub returns-in-Ok-request_in : goal.returns-in-Ok-request_in
returns-in-Ok-request_in g c =
    let files = contents_of c.args.files.now in
    let read = c.in-Ok.read in
    let third = rw c.file.ensures at c.in-Ok-request_in.ensures in
    once_in (verify_for_judged files) (VerifyForOf files)
    (last_fine 0 (under_judged answer_in files) (error_of (request_in (request_file files))) c.in-Ok.ensures.judged (ap error_of third))
    (once_over _ _ _ c.in-Ok.ensures.header (once_over _ _ _ c.in-Ok.ensures.answer
    (once_over (VerifiesFor read.0 read.1) _ _ third (rw c.is_answer_to-asked.ensures at c.verify-status.ensures))))
