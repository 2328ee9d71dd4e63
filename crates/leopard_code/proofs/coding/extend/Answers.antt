use Rattle.std.proofs.Common.{arith}
use Rattle.leopard_code.proofs.CodeLemmas.{reads_bytes, reads_words}
use Rattle.leopard_code.proofs.coding.extend.Goals as goal

-- the field is that of the width
pub extend_over-requires-clause-reading : goal.extend_over-requires-clause-reading
extend_over-requires-clause-reading c = reads_bytes c.room.inside.k (omega arith)

pub extend_over-requires-else-room-le-BYTE_WIDTH-clause-reading : goal.extend_over-requires-else-room-le-BYTE_WIDTH-clause-reading
extend_over-requires-else-room-le-BYTE_WIDTH-clause-reading c = reads_words c.room.inside.k (omega arith)
