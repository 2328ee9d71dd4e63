use Rattle.std.proofs.Common.{ap, arith, length}
use Rattle.std.proofs.lemmas.List.{length-append}
use Rattle.da_status.proofs.DigitLemmas.{digits_fit}
use Rattle.da_script.proofs.lines.put_tail.Goals as goal

pub returns-in-Open-clause-few : goal.returns-in-Open-clause-few
returns-in-Open-clause-few g c = omega (arith, simp length-append at (ap length c.around.ensures), digits_fit (length c.cells.result.now) (omega arith))

pub returns-in-Waiting-clause-few : goal.returns-in-Waiting-clause-few
returns-in-Waiting-clause-few g c = omega (arith, simp length-append at (ap length c.around-in-Waiting.ensures), digits_fit (length c.cells-in-Waiting.result.now) (omega arith))
