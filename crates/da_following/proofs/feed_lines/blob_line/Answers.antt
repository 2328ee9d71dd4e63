use Rattle.std.proofs.Common.{ap, arith, length}
use Rattle.std.proofs.lemmas.List.{length-append}
use Rattle.da_status.proofs.DigitLemmas.{digits_fit}
use Rattle.da_following.proofs.feed_lines.blob_line.Goals as goal

-- a number has at most 20 digits
pub put-requires : goal.put-requires
put-requires c =
    omega (
      arith,
      ap length c.new-line.ensures,
      simp length-append at (ap length c.around.ensures),
      digits_fit c.len.result (omega arith),
    )

pub put-requires-2 : goal.put-requires-2
put-requires-2 c =
    omega (
      arith,
      ap length c.new-line.ensures,
      simp length-append at (ap length c.around.ensures),
      simp length-append at (ap length c.put.ensures),
      digits_fit c.len.result (omega arith),
    )
