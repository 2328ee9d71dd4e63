use Rattle.std.proofs.Common.{arith}
use Rattle.leopard_code.proofs.CodeLemmas.{reads_bytes, reads_words}
use Rattle.leopard_code.proofs.coding.rebuild.Goals as goal

-- the field is that of the width
pub rebuild_over-requires-clause-reading : goal.rebuild_over-requires-clause-reading
rebuild_over-requires-clause-reading c = reads_bytes c.room.inside.k (omega arith)

pub rebuild_over-requires-else-room-le-BYTE_WIDTH-clause-reading : goal.rebuild_over-requires-else-room-le-BYTE_WIDTH-clause-reading
rebuild_over-requires-else-room-le-BYTE_WIDTH-clause-reading c = reads_words c.room.inside.k (omega arith)
