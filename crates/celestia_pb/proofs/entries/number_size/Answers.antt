use Rattle.std.proofs.Common.{arith}
use Rattle.celestia_pb.proofs.SizeLemmas.{length_number}
use Rattle.celestia_pb.proofs.entries.number_size.Goals as goal

-- a tag of one byte, and the number
pub returns-clause-value : goal.returns-clause-value
returns-clause-value c = omega (arith, length_number c.args.number c.args.value (omega arith) (omega arith), c.varint_size.ensures.value)
