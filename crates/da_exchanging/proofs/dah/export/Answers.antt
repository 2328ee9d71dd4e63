use Rattle.celestia_pb.specs.Headers.{dah_text}
use Rattle.da_status.specs.declared.status.Status.TheVariants.{Done}
use Rattle.da_files.specs.Contents.{contents_of}
use Rattle.da_files.specs.Frames.{header_in, WritesText}
use Rattle.da_exchanging.proofs.MadeLemmas.{read_made, no_frame}
use Rattle.da_exchanging.proofs.dah.export.Goals as goal

-- the message of the header that was read
pub returns-in-Ok : goal.returns-in-Ok
returns-in-Ok c =
    read_made header_in (λ header. WritesText Done (dah_text header)) (contents_of c.args.files.now) c.file.result.now c.file.ensures c.in-Ok.header _
    c.in-Ok.ensures c.message.ensures

-- the file is no header
pub returns-in-Err : goal.returns-in-Err
returns-in-Err c =
    no_frame header_in (λ header. WritesText Done (dah_text header)) (contents_of c.args.files.now) c.file.result.now c.file.ensures c.in-Err.why _
    c.frame_refusal.ensures c.in-Err.ensures
