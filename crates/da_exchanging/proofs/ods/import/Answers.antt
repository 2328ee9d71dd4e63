use Rattle.celestia_pb.specs.Ods.{ods_value}
use Rattle.da_wire.specs.declared.frames.Frame.TheVariants.{Square}
use Rattle.da_files.specs.Contents.{contents_of}
use Rattle.da_files.specs.Frames.{Writes}
use Rattle.da_exchanging.proofs.MadeLemmas.{frame_made, no_message}
use Rattle.da_exchanging.proofs.ods.import.Goals as goal

-- the frame of the square that was read
pub returns-in-Ok : goal.returns-in-Ok
returns-in-Ok c =
    frame_made ods_value Square (contents_of c.args.files.now) c.file.result.now c.file.ensures c.in-Ok.square c.square_frame.result _
    c.in-Ok.ensures.square c.square_frame.ensures.value c.frame_text.ensures

-- the bytes are no square
pub returns-in-Err : goal.returns-in-Err
returns-in-Err c =
    no_message ods_value (λ square. Writes (Square square)) (contents_of c.args.files.now) c.file.result.now c.file.ensures c.in-Err.why _
    c.message_refusal.ensures c.in-Err.ensures.at
