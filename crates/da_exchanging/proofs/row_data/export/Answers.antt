use Rattle.da_files.specs.Contents.{contents_of}
use Rattle.da_exchanging.specs.Made.{WritesIf}
use Rattle.da_exchanging.specs.Answers.{ns_answer_in}
use Rattle.da_exchanging.specs.RowData.{answer_message}
use Rattle.da_exchanging.proofs.MadeLemmas.{read_made, no_frame}
use Rattle.da_exchanging.proofs.row_data.export.Goals as goal

-- the message of the one entry of the answer that was read
pub returns-in-Ok : goal.returns-in-Ok
returns-in-Ok c =
    read_made ns_answer_in (λ read. WritesIf (answer_message read.1)) (contents_of c.args.files.now) c.file.result.now c.file.ensures _ _
    c.in-Ok.ensures c.message.ensures

-- the file is no answer
pub returns-in-Err : goal.returns-in-Err
returns-in-Err c =
    no_frame ns_answer_in (λ read. WritesIf (answer_message read.1)) (contents_of c.args.files.now) c.file.result.now c.file.ensures c.in-Err.why _
    c.frame_refusal.ensures c.in-Err.ensures
