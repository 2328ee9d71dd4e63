use Rattle.da_wire.proofs.StreamLemmas.{stands_new}
use Rattle.da_wire.proofs.streams.FrameStream.new.Goals as goal

pub returns-clause-stands : goal.returns-clause-stands
returns-clause-stands c = stands_new _
