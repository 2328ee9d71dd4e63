use Rattle.da_files.specs.Contents.{contents_of}
use Rattle.da_exchanging.specs.Made.{WritesIf}
use Rattle.da_exchanging.specs.Befp.{claim_message}
use Rattle.da_files.specs.Frames.{claim_in}
use Rattle.da_exchanging.proofs.MadeLemmas.{read_made, no_frame}
use Rattle.da_exchanging.proofs.befp.export.Goals as goal

-- the message of the claim that was read
pub returns-in-Ok : goal.returns-in-Ok
returns-in-Ok c =
    read_made claim_in (λ claim. WritesIf (claim_message c.args.k c.args.hash.now c.args.height claim)) (contents_of c.args.files.now) c.file.result.now
    c.file.ensures _ _ c.in-Ok.ensures c.message.ensures

-- the file is no claim
pub returns-in-Err : goal.returns-in-Err
returns-in-Err c =
    no_frame claim_in (λ claim. WritesIf (claim_message c.args.k c.args.hash.now c.args.height claim)) (contents_of c.args.files.now) c.file.result.now
    c.file.ensures c.in-Err.why _ c.frame_refusal.ensures c.in-Err.ensures
