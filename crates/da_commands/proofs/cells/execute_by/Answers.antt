use Rattle.std.proofs.Common.{◌∙◌, ◌∷◌, [], refl, sym, ap}
use Rattle.da_files.specs.Contents.{contents_of}
use Rattle.da_files.specs.Frames.{header_in, error_of}
use Rattle.da_files.specs.Forms.{single_judged}
use Rattle.da_judging.specs.Keys.{key_file_in}
use Rattle.da_files.proofs.FormLemmas.{refused_once, refused_more, last_fine, last_bad, once_in, once_over}
use Rattle.da_commands.specs.Cells.{AsksFirst, cells_key_file, cells_by_judged, CellsByOf}
use Rattle.da_commands.proofs.cells.execute_by.Goals as goal

pub returns-in-Err : goal.returns-in-Err
returns-in-Err g c =
    let files = contents_of c.args.files.now in
    refused_once (cells_by_judged files) (CellsByOf c.args.count c.args.axis files) _ _ _ _
    (refused_more (single_judged header_in files) (error_of (key_file_in (cells_key_file files)) ∷ []) _ c.in-Err.ensures.judged) refl

-- the second file is no key
pub returns : goal.returns
returns g c =
    let files = contents_of c.args.files.now in
    let second = ap key_file_in (sym c.file.ensures) ∙ sym c.in-Err-read_key.ensures in
    refused_once (cells_by_judged files) (CellsByOf c.args.count c.args.axis files) _ _ _ _
    (last_bad 0 (single_judged header_in files) (error_of (key_file_in (cells_key_file files))) _ c.in-Ok.ensures.judged (ap error_of second)) refl

-- the files are the header and the key that were read
pub returns-in-Ok-read_key : goal.returns-in-Ok-read_key
returns-in-Ok-read_key g c =
    let files = contents_of c.args.files.now in
    let key = c.in-Ok-read_key.key in
    let second = ap key_file_in (sym c.file.ensures) ∙ sym c.in-Ok-read_key.ensures in
    once_in (cells_by_judged files) (CellsByOf c.args.count c.args.axis files)
    (last_fine 0 (single_judged header_in files) (error_of (key_file_in (cells_key_file files))) c.in-Ok.ensures.judged (ap error_of second))
    (once_over _ _ _ second (once_over (AsksFirst c.args.axis key c.args.count) _ _ c.in-Ok.ensures.header c.cells.ensures))
