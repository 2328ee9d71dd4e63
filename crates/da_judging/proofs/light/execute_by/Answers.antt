use Rattle.std.proofs.Common.{◌∙◌, ◌∷◌, [], refl, sym, ap}
use Rattle.da_files.specs.Contents.{contents_of}
use Rattle.da_files.specs.Frames.{error_of}
use Rattle.da_files.specs.Forms.{messages_judged}
use Rattle.da_judging.specs.Keys.{key_file_in}
use Rattle.da_judging.specs.Light.{light_key_file, light_by_judged, LightByOf}
use Rattle.da_files.proofs.FormLemmas.{refused_once, refused_more, last_fine, last_bad, once_in, once_over}
use Rattle.da_judging.proofs.light.execute_by.Goals as goal

pub returns-in-Err : goal.returns-in-Err
returns-in-Err g c =
    let files = contents_of c.args.files.now in
    refused_once (light_by_judged files) (LightByOf c.args.count files) _ _ _ _
    (refused_more (messages_judged files) (error_of (key_file_in (light_key_file files)) ∷ []) _ c.in-Err.ensures.judged) refl

-- the third file is no key
pub returns : goal.returns
returns g c =
    let files = contents_of c.args.files.now in
    let third = ap key_file_in (sym c.file.ensures) ∙ sym c.in-Err-read_key.ensures in
    refused_once (light_by_judged files) (LightByOf c.args.count files) _ _ _ _
    (last_bad 0 (messages_judged files) (error_of (key_file_in (light_key_file files))) _ c.in-Ok.ensures.judged (ap error_of third)) refl

-- the files are the header, the frames and the key that were read
pub returns-in-Ok-read_key : goal.returns-in-Ok-read_key
returns-in-Ok-read_key g c =
    let files = contents_of c.args.files.now in
    let third = ap key_file_in (sym c.file.ensures) ∙ sym c.in-Ok-read_key.ensures in
    once_in (light_by_judged files) (LightByOf c.args.count files)
    (last_fine 0 (messages_judged files) (error_of (key_file_in (light_key_file files))) c.in-Ok.ensures.judged (ap error_of third))
    (once_over _ _ _ third (once_over _ _ _ c.in-Ok.ensures.header (rw c.in-Ok.ensures.messages at c.light.ensures)))
