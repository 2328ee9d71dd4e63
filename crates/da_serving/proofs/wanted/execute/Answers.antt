use Rattle.std.proofs.Common.{◌∙◌, List, sym, ap}
use Rattle.namespace_id.specs.declared.cells.Cell.{Cell}
use Rattle.namespace_id.specs.Cells.{CellList}
use Rattle.da_status.specs.declared.status.Status.TheVariants.{Done}
use Rattle.da_files.specs.Contents.{contents_of}
use Rattle.da_files.specs.Frames.{WritesText}
use Rattle.da_serving.specs.Wanted.{missing_in, missing_file, requests_bytes, Wants, WantedOf}
use Rattle.da_files.specs.Forms.{single_judged}
use Rattle.da_status.specs.Judging.{Judged}
use Rattle.da_status.proofs.EndLemmas.{once_as}
use Rattle.da_files.proofs.FormLemmas.{single_is}
use Rattle.da_serving.proofs.wanted.execute.Goals as goal

-- the file is the missing cells that were read
pub returns-in-Ok : goal.returns-in-Ok
returns-in-Ok g c =
    let axis = c.args.axis in
    let files = contents_of c.args.files.now in
    let list = c.deref.ensures.value ∙ ap (λ (cells : CellList). cells.list) c.cells.view_is in
    once_as _ (Judged (single_judged missing_in files) (WantedOf axis files)) _ _ _ _ _ _
    (ap (λ (l : List Cell). WritesText Done (requests_bytes axis l)) list
    ∙ single_is (Wants axis) (missing_in (missing_file files)) c.in-Ok.cells (ap missing_in (sym c.file.ensures) ∙ c.in-Ok.ensures)) c.give_requests.ensures
