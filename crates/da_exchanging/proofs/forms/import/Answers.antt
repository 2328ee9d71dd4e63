use Rattle.std.proofs.Common.{refl}
use Rattle.da_status.specs.declared.status.Status.TheVariants.{Done}
use Rattle.da_status.specs.Judging.{Judged}
use Rattle.da_status.specs.Outcome.{Relation}
use Rattle.da_status.proofs.EndLemmas.{once_within}
use Rattle.da_files.specs.Contents.{contents_of}
use Rattle.da_files.specs.Frames.{WritesText}
use Rattle.da_exchanging.specs.Forms.{import_judged, ImportOf}
use Rattle.da_exchanging.proofs.MadeLemmas.{made_written, made_refused}
use Rattle.da_exchanging.proofs.forms.import.Goals as goal

-- what was made is written
pub returns-in-Ok : goal.returns-in-Ok
returns-in-Ok g c =
    let files = contents_of c.args.files.now in
    let M : Relation = Judged (import_judged c.args.form files) (ImportOf c.args.form files) in
    once_within (WritesText Done c.deref.result.now) M _ _ _ _ _ _
    (made_written M c.in-Ok.text.items c.deref.result.now c.in-Ok.ensures c.deref.ensures.value) c.put.ensures

-- nothing was made
pub returns-in-Err : goal.returns-in-Err
returns-in-Err g c =
    let files = contents_of c.args.files.now in
    made_refused (Judged (import_judged c.args.form files) (ImportOf c.args.form files)) _ _ _ _ c.in-Err.ensures refl
