use Rattle.da_status.specs.declared.status.Status.TheVariants.{Done}
use Rattle.da_files.specs.Contents.{contents_of}
use Rattle.da_files.specs.Frames.{message_in, WritesText}
use Rattle.da_exchanging.specs.Sample.{message_text}
use Rattle.da_exchanging.proofs.MadeLemmas.{read_made, no_frame}
use Rattle.da_exchanging.proofs.sample.export.Goals as goal

-- the message of the sample that was read
pub returns-in-Ok : goal.returns-in-Ok
returns-in-Ok c =
    read_made message_in (λ m. WritesText Done (message_text m)) (contents_of c.args.files.now) c.file.result.now c.file.ensures c.in-Ok.sample _
    c.in-Ok.ensures c.message.ensures

-- the file is no sample
pub returns-in-Err : goal.returns-in-Err
returns-in-Err c =
    no_frame message_in (λ m. WritesText Done (message_text m)) (contents_of c.args.files.now) c.file.result.now c.file.ensures c.in-Err.why _
    c.frame_refusal.ensures c.in-Err.ensures
