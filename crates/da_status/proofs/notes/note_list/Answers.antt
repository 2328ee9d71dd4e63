use Rattle.std.proofs.Common.{length, arith, ap}
use Rattle.std.proofs.lemmas.List.{length-append}
use Rattle.da_status.proofs.DigitLemmas.{digits_fit}
use Rattle.da_status.proofs.notes.note_list.Goals as goal

pub around-requires-in-BadBlob : goal.around-requires-in-BadBlob
around-requires-in-BadBlob c = omega (arith, c.put_two.ensures.few)

-- a number has at most 20 digits
pub returns-in-BadBlob-clause-few : goal.returns-in-BadBlob-clause-few
returns-in-BadBlob-clause-few c =
    omega (
      arith,
      c.put_two.ensures.few,
      simp length-append at (ap length c.around-in-BadBlob.ensures),
      digits_fit c.refusal_number.result (omega arith),
    )

pub returns-in-Behind-clause-few : goal.returns-in-Behind-clause-few
returns-in-Behind-clause-few c = omega (arith, simp length-append at (ap length c.around.ensures), digits_fit c.in-Behind.i (omega arith))

pub returns-in-NoBlobs-clause-few : goal.returns-in-NoBlobs-clause-few
returns-in-NoBlobs-clause-few c = omega (arith, simp length-append at (ap length c.around-in-NoBlobs.ensures), digits_fit c.in-NoBlobs.i (omega arith))

pub returns-in-TooLarge-clause-few : goal.returns-in-TooLarge-clause-few
returns-in-TooLarge-clause-few c = omega (arith, simp length-append at (ap length c.around-in-TooLarge.ensures), digits_fit c.in-TooLarge.needed (omega arith))

pub returns-in-BadVersion-clause-few : goal.returns-in-BadVersion-clause-few
returns-in-BadVersion-clause-few c = omega (arith, c.put_two-in-BadVersion.ensures.few)

pub returns-in-NoBytes-clause-few : goal.returns-in-NoBytes-clause-few
returns-in-NoBytes-clause-few c = omega (arith, c.put_two-in-NoBytes.ensures.few)
