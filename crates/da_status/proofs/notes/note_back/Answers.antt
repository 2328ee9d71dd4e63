use Rattle.std.proofs.Common.{length, arith, ap}
use Rattle.std.proofs.lemmas.List.{length-append}
use Rattle.da_status.proofs.DigitLemmas.{digits_fit}
use Rattle.da_status.proofs.notes.note_back.Goals as goal

-- a number has at most 20 digits
pub returns-in-Units-clause-few : goal.returns-in-Units-clause-few
returns-in-Units-clause-few c = omega (arith, c.put_two.ensures.few)

pub returns-in-Payments-clause-few : goal.returns-in-Payments-clause-few
returns-in-Payments-clause-few c = omega (arith, c.put_two-in-Payments.ensures.few)

pub returns-in-Wrapper-clause-few : goal.returns-in-Wrapper-clause-few
returns-in-Wrapper-clause-few c = omega (arith, simp length-append at (ap length c.around.ensures), digits_fit c.in-Wrapper.i (omega arith))

pub returns-in-Index-clause-few : goal.returns-in-Index-clause-few
returns-in-Index-clause-few c = omega (arith, c.put_two-in-Index.ensures.few)

pub returns-in-Unlike-clause-few : goal.returns-in-Unlike-clause-few
returns-in-Unlike-clause-few c = omega (arith, simp length-append at (ap length c.around-in-Unlike.ensures), digits_fit c.in-Unlike.at (omega arith))
