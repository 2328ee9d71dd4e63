use Rattle.da_files.specs.Frames.{WritesText, WritesWith}
use Rattle.da_status.proofs.EndLemmas.{once_within}
use Rattle.da_files.proofs.SpelledLemmas.{writes_frame}
use Rattle.da_files.proofs.frames.give_with.Goals as goal

-- what is written is the frame's spelling
pub returns-in-Ok : goal.returns-in-Ok
returns-in-Ok g c =
    once_within (WritesText c.args.status c.deref.result.now) (WritesWith c.args.status c.args.frame) _ _ _ _ _ _
    (writes_frame c.args.frame c.args.status _ _ c.deref.result.now c.clear.ensures.items c.in-Ok.ensures.written c.deref.ensures.value) c.put.ensures
