use Rattle.std.proofs.Common.{◌∙◌, sym, ap}
use Rattle.da_wire.specs.declared.frames.Frame.{Frame}
use Rattle.da_files.specs.Contents.{contents_of}
use Rattle.da_serving.specs.Blobs.{frame_shares, shares_frame, shares_file, JoinsShares, BlobsOf}
use Rattle.da_files.specs.Forms.{single_judged}
use Rattle.da_status.specs.Judging.{Judged}
use Rattle.da_status.proofs.EndLemmas.{once_as}
use Rattle.da_files.proofs.FormLemmas.{single_is}
use Rattle.da_serving.proofs.blobs.execute.Goals as goal

-- the file is the square or the answer that was read
pub returns-in-Ok : goal.returns-in-Ok
returns-in-Ok g c =
    let files = contents_of c.args.files.now in
    once_as (JoinsShares (frame_shares c.in-Ok.frame)) (Judged (single_judged shares_frame files) (BlobsOf files)) _ _ _ _ _ _
    (single_is (λ (frame : Frame). JoinsShares (frame_shares frame)) (shares_frame (shares_file files)) c.in-Ok.frame
    (ap shares_frame (sym c.file.ensures) ∙ c.in-Ok.ensures.read)) c.give_of-status.ensures
