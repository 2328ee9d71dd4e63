use Rattle.std.proofs.Common.{length, arith, ap}
use Rattle.std.proofs.lemmas.List.{length-append}
use Rattle.da_status.proofs.DigitLemmas.{digits_fit}
use Rattle.da_serving.proofs.find.range_line.Goals as goal

-- a number has at most 20 digits
pub around-requires-2 : goal.around-requires-2
around-requires-2 c =
    omega (arith, ap length c.new-line.ensures, simp length-append at (ap length c.around.ensures), digits_fit c.args.start (omega arith))
