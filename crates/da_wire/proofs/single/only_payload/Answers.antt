use Rattle.da_wire.specs.Reading.{raw_seen}
use Rattle.da_wire.proofs.SingleLemmas.{only_is}
use Rattle.da_wire.proofs.single.only_payload.Goals as goal

pub returns : goal.returns
returns c = only_is c.args.kind c.args.bytes.now (raw_seen c.in_ok-frame.frame) c.in_ok-frame.ensures.value c.if-frame-bytes.false
