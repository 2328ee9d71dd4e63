use Rattle.std.proofs.Common.{◌∙◌, ◌∷◌, [], Err, refl, sym, ap}
use Rattle.da_files.specs.Contents.{contents_of}
use Rattle.da_files.specs.Frames.{header_in, error_of, claim_in}
use Rattle.da_files.specs.Forms.{single_judged, under_judged}
use Rattle.da_judging.specs.Compact.{claim_file, CompactsJudged, CompactOf}
use Rattle.da_files.proofs.FormLemmas.{refused_once, refused_more, last_fine, last_bad, once_in, once_over}
use Rattle.da_judging.proofs.compact.execute.Goals as goal

pub returns-in-Err : goal.returns-in-Err
returns-in-Err g c =
    let files = contents_of c.args.files.now in
    refused_once (under_judged claim_in files) (CompactOf files) _ _ _ _
    (refused_more (single_judged header_in files) (error_of (claim_in (claim_file files)) ∷ []) _ c.in-Err.ensures.judged) refl

-- the second file is no claim
pub returns-in-Err-BadForm : goal.returns-in-Err-BadForm
returns-in-Err-BadForm g c =
    let files = contents_of c.args.files.now in
    let second = rw (c.in-Err-BadForm.field-0-is, c.file.ensures) at c.in-Err-BadForm.ensures in
    refused_once (under_judged claim_in files) (CompactOf files) _ _ _ _
    (last_bad 0 (single_judged header_in files) (error_of (claim_in (claim_file files))) _ c.in-Ok.ensures.judged
    (ap error_of (second ∙ ap Err (sym c.in-Err-BadForm.at-is)))) refl

-- the files are the header and the claim that were read
pub returns-in-Ok-claim_in : goal.returns-in-Ok-claim_in
returns-in-Ok-claim_in g c =
    let files = contents_of c.args.files.now in
    let second = rw c.file.ensures at c.in-Ok-claim_in.ensures in
    once_in (under_judged claim_in files) (CompactOf files)
    (last_fine 0 (single_judged header_in files) (error_of (claim_in (claim_file files))) c.in-Ok.ensures.judged (ap error_of second))
    (once_over _ _ _ c.in-Ok.ensures.header (once_over (CompactsJudged c.in-Ok.header) _ _ second c.judge.ensures))
