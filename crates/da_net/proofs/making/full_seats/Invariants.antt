use Rattle.std.proofs.Common.{replicate}
use Rattle.std.specs.List.{AllZip}
use Rattle.da_net.specs.Networks.{full}
use Rattle.da_net.specs.Seats.{IsFreshSeat}
use Rattle.da_net.proofs.making.full_seats.Given as goal

-- so many are there
abbrev pub invariant-loop-number : goal.invariant-loop-number
invariant-loop-number g l = AllZip (IsFreshSeat g.F.Picker.picks l.header) (replicate l.number full) l.seats.items
