use Rattle.std.proofs.Common.{ap, Err}
use Rattle.da_serving.proofs.namespace.HeldRowsServer.hold.Goals as goal

pub returns-in-Err-NoHeader : goal.returns-in-Err-NoHeader
returns-in-Err-NoHeader c = c.in-Err-NoHeader.ensures.no_header (ap Err c.in-Err-NoHeader.field-0-is)
