use Rattle.std.proofs.Common.{refl}
use Rattle.da_files.specs.Frames.{WritesText}
use Rattle.da_status.proofs.EndLemmas.{ends_in_fault, ends_output, once_fault, once_output}
use Rattle.da_files.proofs.frames.put.Goals as goal

-- all of the text was taken
pub returns-in-Ok : goal.returns-in-Ok
returns-in-Ok g c =
    let M = WritesText c.args.status c.args.text.now in
    once_output M _ _ _ _ _ _ c.requires
    (ends_output M _ _ _ _ _ _ _ c.requires (refl, refl) c.in-Ok.ensures.taken c.in-Ok.ensures.faults c.in-Ok.ensures.told)

-- a write failed after its front
pub returns-in-Err : goal.returns-in-Err
returns-in-Err g c =
    let M = WritesText c.args.status c.args.text.now in
    once_fault M _ _ _ _ _
    (ends_in_fault M _ _ _ _ _ _ _ (refl, refl) c.in-Err.ensures.taken c.in-Err.ensures.faults c.in-Err.ensures.told)
