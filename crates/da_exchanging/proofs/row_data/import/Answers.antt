use Rattle.celestia_pb.specs.RowData.{row_value}
use Rattle.da_files.specs.Contents.{contents_of}
use Rattle.da_files.specs.Frames.{Writes}
use Rattle.da_exchanging.specs.RowData.{row_frame}
use Rattle.da_exchanging.proofs.MadeLemmas.{frame_made, no_message}
use Rattle.da_exchanging.proofs.row_data.import.Goals as goal

-- what was read as an entry has a message
pub row_frame-requires : goal.row_frame-requires
row_frame-requires c = (c.row_data_laws.ensures.spelled c.args.row c.file-bytes.result.now _ c.bytes_law.ensures c.in-Ok.ensures.entry).1.has

-- the frame of the answer that has the entry that was read
pub returns-in-Ok-row_frame : goal.returns-in-Ok-row_frame
returns-in-Ok-row_frame c =
    frame_made (row_value c.args.row) (row_frame c.args.name) (contents_of c.args.files.now) c.file-bytes.result.now c.file-bytes.ensures c.in-Ok.entry
    c.in-Ok-row_frame.frame _ c.in-Ok.ensures.entry c.in-Ok-row_frame.ensures.value c.frame_text.ensures

-- the bytes are no message
pub returns-in-Err : goal.returns-in-Err
returns-in-Err c =
    no_message (row_value c.args.row) (λ entry. Writes (row_frame c.args.name entry)) (contents_of c.args.files.now) c.file-bytes.result.now
    c.file-bytes.ensures c.in-Err.why _ c.message_refusal.ensures c.in-Err.ensures.at
