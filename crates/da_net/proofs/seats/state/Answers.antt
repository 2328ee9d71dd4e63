use Rattle.std.proofs.Common.{◌∙◌}
use Rattle.da_net.proofs.SeatLemmas.{light_stands}
use Rattle.da_net.proofs.seats.state.Goals as goal

-- a light node stands as it says
pub returns-in-Light : goal.returns-in-Light
returns-in-Light g c = λ header items is.
    let found = light_stands g.F.Picker.picks header items c.args.seat.now c.in-Light.node c.in-Light.is is c.state.result c.state.ensures in
    (found.0, found.1, c.state_with.ensures ∙ found.2)
