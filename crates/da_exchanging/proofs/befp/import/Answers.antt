use Rattle.celestia_pb.specs.Befp.{befp_value}
use Rattle.da_wire.specs.declared.frames.Frame.TheVariants.{Fraud}
use Rattle.da_files.specs.Contents.{contents_of}
use Rattle.da_files.specs.Frames.{Writes}
use Rattle.da_exchanging.proofs.MadeLemmas.{frame_made, no_message}
use Rattle.da_exchanging.proofs.ClaimLemmas.{claim_written}
use Rattle.da_exchanging.proofs.befp.import.Goals as goal

-- the claim has a frame
pub claim_frame-requires : goal.claim_frame-requires
claim_frame-requires c =
    claim_written c.befp_laws.ensures.spelled c.args.hash.now c.args.height c.file-bytes.result.now _ c.bytes_law.ensures c.in-Ok.ensures.claim

-- the frame of the claim that was read
pub returns-in-Ok : goal.returns-in-Ok
returns-in-Ok c =
    frame_made (befp_value c.args.hash.now c.args.height) Fraud (contents_of c.args.files.now) c.file-bytes.result.now c.file-bytes.ensures _
    c.claim_frame.result _ c.in-Ok.ensures.claim c.claim_frame.ensures.value c.frame_text.ensures

-- the bytes are no message
pub returns-in-Err : goal.returns-in-Err
returns-in-Err c =
    no_message (befp_value c.args.hash.now c.args.height) (λ claim. Writes (Fraud claim)) (contents_of c.args.files.now) c.file-bytes.result.now
    c.file-bytes.ensures c.in-Err.why _ c.message_refusal.ensures c.in-Err.ensures.at
