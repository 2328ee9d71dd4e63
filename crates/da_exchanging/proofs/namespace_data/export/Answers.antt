use Rattle.da_files.specs.Contents.{contents_of}
use Rattle.da_exchanging.specs.NamespaceData.{entries_in, StreamOf}
use Rattle.da_exchanging.proofs.MadeLemmas.{read_made, no_frame}
use Rattle.da_exchanging.proofs.namespace_data.export.Goals as goal

-- the stream of the entries that were read
pub returns-in-Ok : goal.returns-in-Ok
returns-in-Ok c =
    read_made entries_in StreamOf (contents_of c.args.files.now) c.file.result.now c.file.ensures c.in-Ok.answer _ c.in-Ok.ensures c.stream.ensures

-- the file has no entries
pub returns-in-Err : goal.returns-in-Err
returns-in-Err c =
    no_frame entries_in StreamOf (contents_of c.args.files.now) c.file.result.now c.file.ensures c.in-Err.why _ c.frame_refusal.ensures c.in-Err.ensures
