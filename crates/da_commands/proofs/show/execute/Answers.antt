use Rattle.std.proofs.Common.{◌∙◌, [], refl, sym, ap}
use Rattle.da_wire.specs.Values.{values_of, bad_value}
use Rattle.da_files.specs.Contents.{contents_of}
use Rattle.da_status.specs.Judging.{Judged}
use Rattle.da_commands.specs.Show.{all_kinds, shown_as, shown_file, ShowsFrames, show_judged}
use Rattle.da_status.proofs.EndLemmas.{ends_as}
use Rattle.da_files.proofs.FormLemmas.{refused_ends, judged_is, last_fine, last_bad}
use Rattle.da_commands.proofs.show.execute.Goals as goal

pub returns-in-Some : goal.returns-in-Some
returns-in-Some g c =
    let files = contents_of c.args.files.now in
    refused_ends (show_judged files) (ShowsFrames (shown_as c.args.form) (values_of all_kinds (shown_file files))) _ _ _ _
    (last_bad 0 [] _ c.in-Some.at refl (ap (bad_value all_kinds) (sym c.file-frames.ensures) ∙ sym c.in-Some.ensures)) refl

pub returns : goal.returns
returns g c =
    let files = contents_of c.args.files.now in
    let fine = last_fine 0 [] _ refl (ap (bad_value all_kinds) (sym c.file-frames.ensures) ∙ sym c.in_default.ensures) in
    let answer = ShowsFrames (shown_as c.args.form) (values_of all_kinds (shown_file files)) in
    ends_as _ (Judged (show_judged files) answer) _ _ _ _ _ _ (judged_is (show_judged files) answer fine) (rw c.file-frames.ensures at c.list.ensures)
