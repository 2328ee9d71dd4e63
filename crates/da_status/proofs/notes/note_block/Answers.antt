use Rattle.std.proofs.Common.{length, arith, ap}
use Rattle.std.proofs.lemmas.List.{length-append}
use Rattle.da_status.proofs.DigitLemmas.{digits_fit}
use Rattle.da_status.proofs.notes.note_block.Goals as goal

pub around-requires-in-BadBlob : goal.around-requires-in-BadBlob
around-requires-in-BadBlob c = omega (arith, simp length-append at (ap length c.around.ensures), digits_fit c.in-BadBlob.i (omega arith))

-- a number has at most 20 digits
pub returns-in-BadBlob-clause-few : goal.returns-in-BadBlob-clause-few
returns-in-BadBlob-clause-few c =
    omega (
      arith,
      simp length-append at (ap length c.around.ensures),
      simp length-append at (ap length c.around-in-BadBlob.ensures),
      digits_fit c.in-BadBlob.i (omega arith),
      digits_fit c.refusal_number.result (omega arith),
    )

pub returns-in-EmptyBlob-clause-few : goal.returns-in-EmptyBlob-clause-few
returns-in-EmptyBlob-clause-few c = omega (arith, simp length-append at (ap length c.around-in-EmptyBlob.ensures), digits_fit c.in-EmptyBlob.i (omega arith))

pub returns-in-TooLarge-clause-few : goal.returns-in-TooLarge-clause-few
returns-in-TooLarge-clause-few c = omega (arith, simp length-append at (ap length c.around-in-TooLarge.ensures), digits_fit c.in-TooLarge.needed (omega arith))

pub returns-in-WidthTooSmall-clause-few : goal.returns-in-WidthTooSmall-clause-few
returns-in-WidthTooSmall-clause-few c =
    omega (arith, simp length-append at (ap length c.around-in-WidthTooSmall.ensures), digits_fit c.in-WidthTooSmall.needed (omega arith))
