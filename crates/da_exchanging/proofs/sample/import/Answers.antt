use Rattle.std.proofs.Common.{refl}
use Rattle.celestia_pb.specs.Samples.{sample_value}
use Rattle.da_files.specs.Contents.{contents_of}
use Rattle.da_files.specs.Frames.{Writes}
use Rattle.da_exchanging.specs.Sample.{sample_frame}
use Rattle.da_exchanging.proofs.MadeLemmas.{frame_made, no_message}
use Rattle.da_exchanging.proofs.sample.import.Goals as goal

-- the frame of the sample that was read
pub returns-in-Ok : goal.returns-in-Ok
returns-in-Ok c =
    frame_made (sample_value c.args.cell) (sample_frame c.args.cell) (contents_of c.args.files.now) c.file.result.now c.file.ensures c.in-Ok.sample
    c.sample_frame.result _ ((c.in-Ok.ensures.sample c.in-Ok.sample).0 refl) c.sample_frame.ensures.value c.frame_text.ensures

-- the bytes are no message
pub returns-in-Err : goal.returns-in-Err
returns-in-Err c =
    no_message (sample_value c.args.cell) (λ sample. Writes (sample_frame c.args.cell sample)) (contents_of c.args.files.now) c.file.result.now
    c.file.ensures c.in-Err.why _ c.message_refusal.ensures c.in-Err.ensures.at
