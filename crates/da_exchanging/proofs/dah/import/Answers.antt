use Rattle.celestia_pb.specs.Headers.{dah_value}
use Rattle.da_wire.specs.declared.frames.Frame.TheVariants.{Header}
use Rattle.da_files.specs.Contents.{contents_of}
use Rattle.da_files.specs.Frames.{Writes}
use Rattle.da_exchanging.proofs.MadeLemmas.{frame_made, no_message}
use Rattle.da_exchanging.proofs.dah.import.Goals as goal

-- the frame of the header that was read
pub returns-in-Ok : goal.returns-in-Ok
returns-in-Ok c =
    frame_made dah_value Header (contents_of c.args.files.now) c.file.result.now c.file.ensures c.in-Ok.header c.header_frame.result _
    c.in-Ok.ensures.header c.header_frame.ensures.value c.frame_text.ensures

-- the bytes are no message
pub returns-in-Err : goal.returns-in-Err
returns-in-Err c =
    no_message dah_value (λ header. Writes (Header header)) (contents_of c.args.files.now) c.file.result.now c.file.ensures c.in-Err.why _
    c.message_refusal.ensures c.in-Err.ensures.at
