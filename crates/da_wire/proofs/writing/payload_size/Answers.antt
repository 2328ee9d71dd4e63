use Rattle.da_wire.proofs.kinds.Form.{value_sized}
use Rattle.da_wire.proofs.writing.payload_size.Goals as goal

-- the length of the payload is that of the value's spelling
pub returns : goal.returns
returns c = value_sized c.args.frame.now c.written_size.result c.written_size.ensures
