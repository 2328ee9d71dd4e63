use Rattle.std.proofs.Common.{length, arith, ap}
use Rattle.std.proofs.lemmas.List.{length-append}
use Rattle.da_status.proofs.DigitLemmas.{digits_room, put_last}
use Rattle.da_status.proofs.line.Line.+put_number.Goals as goal

pub put-requires-2 : goal.put-requires-2
put-requires-2 t c =
    omega (arith, simp length-append at (ap length c.put_number.ensures), digits_room c.args.number (omega arith) (omega arith))

pub returns : goal.returns
returns t c = put_last c.args.self.now _ _ c.args.number (omega arith) (omega arith) c.put_number.ensures c.put-2.ensures
