use Rattle.std.proofs.Common.{refl}
use Rattle.celestia_pb.specs.Ids.{namespace_id_value}
use Rattle.da_wire.specs.declared.frames.Frame.TheVariants.{Request}
use Rattle.da_files.specs.Contents.{contents_of}
use Rattle.da_files.specs.Frames.{Writes}
use Rattle.da_exchanging.proofs.MadeLemmas.{frame_made, no_message}
use Rattle.da_exchanging.proofs.ids.import_namespace.Goals as goal

-- the request for the namespace that was read
pub returns-in-Ok : goal.returns-in-Ok
returns-in-Ok c =
    frame_made (namespace_id_value c.args.height) Request (contents_of c.args.files.now) c.file.result.now c.file.ensures c.in-Ok.name
    c.name_frame.result _ ((c.in-Ok.ensures.name c.in-Ok.name).0 refl) c.name_frame.ensures.value c.frame_text.ensures

-- the bytes are no identifier
pub returns-in-Err : goal.returns-in-Err
returns-in-Err c =
    no_message (namespace_id_value c.args.height) (λ name. Writes (Request name)) (contents_of c.args.files.now) c.file.result.now
    c.file.ensures c.in-Err.why _ c.message_refusal.ensures c.in-Err.ensures.at
