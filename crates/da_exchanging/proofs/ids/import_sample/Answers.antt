use Rattle.std.proofs.Common.{refl}
use Rattle.celestia_pb.specs.Ids.{sample_id_value}
use Rattle.da_files.specs.Contents.{contents_of}
use Rattle.da_files.specs.Frames.{Writes}
use Rattle.da_exchanging.specs.Ids.{row_request}
use Rattle.da_exchanging.proofs.MadeLemmas.{frame_made, no_message}
use Rattle.da_exchanging.proofs.ids.import_sample.Goals as goal

-- the request for the cell that was read
pub returns-in-Ok : goal.returns-in-Ok
returns-in-Ok c =
    frame_made (sample_id_value c.args.height) row_request (contents_of c.args.files.now) c.file.result.now c.file.ensures c.in-Ok.cell
    c.cell_frame.result _ ((c.in-Ok.ensures.cell c.in-Ok.cell).0 refl) c.cell_frame.ensures.value c.frame_text.ensures

-- the bytes are no identifier
pub returns-in-Err : goal.returns-in-Err
returns-in-Err c =
    no_message (sample_id_value c.args.height) (λ cell. Writes (row_request cell)) (contents_of c.args.files.now) c.file.result.now
    c.file.ensures c.in-Err.why _ c.message_refusal.ensures c.in-Err.ensures.at
