use Rattle.da_files.specs.Contents.{contents_of}
use Rattle.da_files.specs.Forms.{messages_judged}
use Rattle.da_judging.specs.Check.{CheckOf}
use Rattle.da_files.proofs.FormLemmas.{once_in, once_over}
use Rattle.da_judging.proofs.check.execute.Goals as goal

-- the files are the header and the frames that were read
pub returns : goal.returns
returns g c =
    let files = contents_of c.args.files.now in
    once_in (messages_judged files) (CheckOf files) c.in-Ok.ensures.judged
    (once_over _ _ _ c.in-Ok.ensures.header (rw c.in-Ok.ensures.messages at c.list.ensures))
