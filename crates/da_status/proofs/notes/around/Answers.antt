use Rattle.std.proofs.Common.{length, arith, ap}
use Rattle.std.proofs.lemmas.List.{length-append}
use Rattle.da_status.proofs.DigitLemmas.{digits_fit}
use Rattle.da_status.proofs.notes.around.Goals as goal

pub put_number-requires : goal.put_number-requires
put_number-requires c = omega (arith, simp length-append at (ap length c.put.ensures), digits_fit c.args.number (omega arith))

pub put-requires-2 : goal.put-requires-2
put-requires-2 c =
    omega (arith, simp length-append at (ap length c.put.ensures), simp length-append at (ap length c.put_number.ensures), digits_fit c.args.number (omega arith))
