use Rattle.std.proofs.Common.{length, arith, ap}
use Rattle.std.proofs.lemmas.List.{length-append}
use Rattle.da_status.proofs.DigitLemmas.{digits_fit}
use Rattle.da_status.proofs.notes.note_of.Goals as goal

pub around-requires-in-BadInput-2 : goal.around-requires-in-BadInput-2
around-requires-in-BadInput-2 c = omega (arith, ap length c.new-line.ensures, simp length-append at (ap length c.around-in-BadInput.ensures), digits_fit c.from-in-BadInput.result (omega arith))

pub put-requires-in-BadBlock-2 : goal.put-requires-in-BadBlock-2
put-requires-in-BadBlock-2 c =
    omega (arith, ap length c.new-line.ensures, simp length-append at (ap length c.put-in-BadBlock.ensures), c.note_block.ensures.few)

pub around-requires-in-Missing-2 : goal.around-requires-in-Missing-2
around-requires-in-Missing-2 c = omega (arith, ap length c.new-line.ensures, simp length-append at (ap length c.around-in-Missing.ensures), digits_fit c.from-in-Missing.result (omega arith))

pub around-requires-in-BadRequest-Shares-2 : goal.around-requires-in-BadRequest-Shares-2
around-requires-in-BadRequest-Shares-2 c = omega (arith, ap length c.new-line.ensures, simp length-append at (ap length c.around-in-BadRequest-Shares.ensures), digits_fit c.join_number.result (omega arith))

pub put-requires-in-BadList-2 : goal.put-requires-in-BadList-2
put-requires-in-BadList-2 c =
    omega (arith, ap length c.new-line.ensures, simp length-append at (ap length c.put-in-BadList.ensures), c.note_list.ensures.few)

pub put-requires-in-BadRequest-NoList-2 : goal.put-requires-in-BadRequest-NoList-2
put-requires-in-BadRequest-NoList-2 c =
    omega (arith, ap length c.new-line.ensures, simp length-append at (ap length c.put-in-BadRequest-NoList.ensures), c.note_back.ensures.few)
