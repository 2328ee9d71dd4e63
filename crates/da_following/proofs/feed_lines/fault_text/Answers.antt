use Rattle.std.proofs.Common.{ap, arith, length}
use Rattle.std.proofs.lemmas.List.{length-append}
use Rattle.da_status.proofs.DigitLemmas.{digits_fit}
use Rattle.da_following.proofs.feed_lines.fault_text.Goals as goal

-- a number has at most 20 digits
pub around-requires-2 : goal.around-requires-2
around-requires-2 c =
    omega (
      arith,
      ap length c.new-line.ensures,
      simp length-append at (ap length c.around.ensures),
      digits_fit c.join_number.result (omega arith),
    )
