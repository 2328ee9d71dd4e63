use Rattle.celestia_pb.specs.Ods.{ods_text}
use Rattle.da_status.specs.declared.status.Status.TheVariants.{Done}
use Rattle.da_files.specs.Contents.{contents_of}
use Rattle.da_files.specs.Frames.{square_in, WritesText}
use Rattle.da_exchanging.proofs.MadeLemmas.{read_made, no_frame}
use Rattle.da_exchanging.proofs.ods.export.Goals as goal

-- the shares of the square that was read
pub returns-in-Ok : goal.returns-in-Ok
returns-in-Ok c =
    read_made square_in (λ square. WritesText Done (ods_text square)) (contents_of c.args.files.now) c.file.result.now c.file.ensures c.in-Ok.square _
    c.in-Ok.ensures c.shares.ensures

-- the file is no square
pub returns-in-Err : goal.returns-in-Err
returns-in-Err c =
    no_frame square_in (λ square. WritesText Done (ods_text square)) (contents_of c.args.files.now) c.file.result.now c.file.ensures c.in-Err.why _
    c.frame_refusal.ensures c.in-Err.ensures
