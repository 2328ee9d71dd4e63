use Rattle.std.proofs.Common.{length, arith, ap}
use Rattle.std.proofs.lemmas.List.{length-append}
use Rattle.da_status.proofs.DigitLemmas.{digits_fit}
use Rattle.da_status.proofs.notes.put_two.Goals as goal

pub around-requires-2 : goal.around-requires-2
around-requires-2 c = omega (arith, simp length-append at (ap length c.around.ensures), digits_fit c.args.i (omega arith))

-- a number has at most 20 digits
pub returns-clause-few : goal.returns-clause-few
returns-clause-few c =
    omega (
      arith,
      simp length-append at (ap length c.around.ensures),
      simp length-append at (ap length c.around-2.ensures),
      digits_fit c.args.i (omega arith),
      digits_fit c.args.j (omega arith),
    )
