use Rattle.celestia_pb.specs.HalfRows.{half_row_value}
use Rattle.da_files.specs.Contents.{contents_of}
use Rattle.da_exchanging.specs.Row.{RowOf}
use Rattle.da_exchanging.proofs.MadeLemmas.{read_made, no_message}
use Rattle.da_exchanging.proofs.row.import.Goals as goal

-- the frames of the row of the half that was read
pub returns-in-Ok : goal.returns-in-Ok
returns-in-Ok c =
    read_made half_row_value (RowOf c.args.row) (contents_of c.args.files.now) c.file.result.now c.file.ensures c.in-Ok.half _
    c.in-Ok.ensures.half c.row_of.ensures

-- the bytes are no message
pub returns-in-Err : goal.returns-in-Err
returns-in-Err c =
    no_message half_row_value (RowOf c.args.row) (contents_of c.args.files.now) c.file.result.now
    c.file.ensures c.in-Err.why _ c.message_refusal.ensures c.in-Err.ensures.at
