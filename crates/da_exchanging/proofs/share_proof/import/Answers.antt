use Rattle.std.proofs.Common.{refl}
use Rattle.celestia_pb.specs.ShareProofs.{share_proof_value}
use Rattle.blob_commit.specs.Proofs.{RootedParts}
use Rattle.da_wire.specs.declared.frames.Frame.TheVariants.{Rooted}
use Rattle.da_files.specs.Contents.{contents_of}
use Rattle.da_files.specs.Frames.{Writes}
use Rattle.da_exchanging.proofs.MadeLemmas.{frame_made, no_message}
use Rattle.da_exchanging.proofs.share_proof.import.Goals as goal

-- the frame of the root proof that was read
pub returns-in-Ok : goal.returns-in-Ok
returns-in-Ok c =
    frame_made share_proof_value Rooted (contents_of c.args.files.now) c.file.result.now c.file.ensures c.in-Ok.proof
    c.rooted_frame.result _ ((c.in-Ok.ensures.proof c.in-Ok.proof).0 refl) c.rooted_frame.ensures.value c.frame_text.ensures

-- the bytes are no message
pub returns-in-Err : goal.returns-in-Err
returns-in-Err c =
    no_message share_proof_value (λ (proof : RootedParts). Writes (Rooted proof)) (contents_of c.args.files.now) c.file.result.now
    c.file.ensures c.in-Err.why _ c.message_refusal.ensures c.in-Err.ensures.at
