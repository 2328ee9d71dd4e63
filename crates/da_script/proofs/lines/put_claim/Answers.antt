use Rattle.std.proofs.Common.{◌∙◌, ap, arith, length}
use Rattle.std.proofs.lemmas.List.{length-append}
use Rattle.da_status.proofs.DigitLemmas.{digits_fit}
use Rattle.da_script.proofs.TailLemmas.{axis_few}
use Rattle.da_script.proofs.lines.put_claim.Goals as goal

pub returns-clause-few : goal.returns-clause-few
returns-clause-few c =
    let word = ap length c.axis_note.ensures ∙ axis_few _ in
    omega (
      arith,
      word,
      simp length-append at (ap length c.put.ensures),
      simp length-append at (ap length c.put-2.ensures),
      simp length-append at (ap length c.around.ensures),
      digits_fit c.from.result (omega arith),
    )
