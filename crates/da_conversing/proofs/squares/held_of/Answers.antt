use Rattle.std.proofs.Common.{Err, ap}
use Rattle.da_conversing.proofs.squares.held_of.Goals as goal

-- a square that isn't held for want of a header has none
pub returns-in-Err-NoHeader : goal.returns-in-Err-NoHeader
returns-in-Err-NoHeader c = c.in-Err-NoHeader.ensures.no_header (ap Err c.in-Err-NoHeader.field-0-is)
