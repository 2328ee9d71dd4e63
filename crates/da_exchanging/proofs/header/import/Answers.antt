use Rattle.celestia_pb.specs.Extended.{extended_value}
use Rattle.da_files.specs.Contents.{contents_of}
use Rattle.da_exchanging.specs.Header.{WritesRoots}
use Rattle.da_exchanging.proofs.MadeLemmas.{read_made, no_message}
use Rattle.da_exchanging.proofs.header.import.Goals as goal

-- the frame of the axis roots that were read
pub returns-in-Ok : goal.returns-in-Ok
returns-in-Ok c =
    read_made extended_value WritesRoots (contents_of c.args.files.now) c.file.result.now c.file.ensures c.in-Ok.extended _
    c.in-Ok.ensures.extended c.roots_text.ensures

-- the bytes are no message
pub returns-in-Err : goal.returns-in-Err
returns-in-Err c =
    no_message extended_value WritesRoots (contents_of c.args.files.now) c.file.result.now c.file.ensures c.in-Err.why _
    c.message_refusal.ensures c.in-Err.ensures.at
