use Rattle.celestia_pb.specs.Ids.{namespace_id_text}
use Rattle.da_status.specs.declared.status.Status.TheVariants.{Done}
use Rattle.da_files.specs.Contents.{contents_of}
use Rattle.da_files.specs.Frames.{WritesText}
use Rattle.da_exchanging.specs.Ids.{asked_name_in}
use Rattle.da_exchanging.proofs.MadeLemmas.{read_made, no_frame}
use Rattle.da_exchanging.proofs.ids.export_namespace.Goals as goal

-- the identifier of the namespace that is asked for
pub returns-in-Ok : goal.returns-in-Ok
returns-in-Ok c =
    read_made asked_name_in (λ name. WritesText Done (namespace_id_text c.args.height name)) (contents_of c.args.files.now) c.file.result.now c.file.ensures
    c.in-Ok.name _ c.in-Ok.ensures c.namespace_id.ensures

-- the file is no request for one
pub returns-in-Err : goal.returns-in-Err
returns-in-Err c =
    no_frame asked_name_in (λ name. WritesText Done (namespace_id_text c.args.height name)) (contents_of c.args.files.now) c.file.result.now c.file.ensures
    c.in-Err.why _ c.frame_refusal.ensures c.in-Err.ensures
