use Rattle.da_wire.specs.Reading.{Raw, raw_seen, value_at}
use Rattle.da_wire.proofs.FrameLemmas.{valued_some}
use Rattle.da_wire.proofs.KindLemmas.{value_among}
use Rattle.da_wire.proofs.reading.read_only.Goals as goal

-- the frame's kind was asked for
pub returns-clause-kind : goal.returns-clause-kind
returns-clause-kind c =
    let f : Raw = raw_seen c.in_ok-frame.frame in
    let read = valued_some 0 f (value_at f.kind f.payload) c.in_ok-value.value c.in_ok-value._end c.in_ok-value.ensures in
    value_among c.args.kinds.now c.args.bytes.now f c.in_ok-value.value c.in_ok-frame.ensures.value read.0
