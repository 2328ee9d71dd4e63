use Rattle.std.proofs.Common.{◌≡◌, ℕ, Err, ap, subst, refl}
use Rattle.data_header.specs.Headers.{Roots}
use Rattle.std.specs.String.{string_bytes}
use Rattle.da_status.specs.declared.status.Status.TheVariants.{BadInput}
use Rattle.da_files.specs.declared.frames.Unread.{Unread}
use Rattle.da_files.specs.Frames.{header_in, ReadsSingle}
use Rattle.da_cli.proofs.SecondLemmas.{second_of, refused_ends, first_refuses}
use Rattle.da_cli.proofs.repair.second_file.Goals as goal

-- under a header
pub returns-in-Ok-new : goal.returns-in-Ok-new
returns-in-Ok-new g c =
    second_of g.I.Inputs g.O.Sink (string_bytes c.args.name) c.args.text.now c.in-Ok.header c.args.inputs.now c.repair_file.new.inputs c.args.out.now c.repair_file.new.out c.repair_file.result
    c.in-Ok.ensures c.repair_file.ensures

-- HEADER is no header
pub returns-in-Ok-skim_file : goal.returns-in-Ok-skim_file
returns-in-Ok-skim_file g c =
    let file = c.in-Ok-skim_file.ensures in
    let bad : header_in c.args.text.now ≡ Err c.in-Err-BadForm.at =
    subst (λ (u : Unread). ReadsSingle {A = Roots} (Err u) (header_in c.args.text.now)) c.in-Err-BadForm.field-0-is c.in-Err-BadForm.ensures in (
      file.0,
      file.1,
      refused_ends g.I.Inputs g.O.Sink 0 c.in-Err-BadForm.at c.args.text.now file.0 c.args.out.now c.args.out.now _ (first_refuses c.args.text.now file.0 c.in-Err-BadForm.at bad)
          (ap (λ (n : ℕ). BadInput 0 n) c.in-Err-BadForm.at-is) refl,
    )
