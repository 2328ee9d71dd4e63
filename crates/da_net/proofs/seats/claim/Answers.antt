use Rattle.std.proofs.Common.{◌∙◌, sym, ap}
use Rattle.std.specs.Prelude.{option_copied}
use Rattle.da_net.specs.declared.seats.Node.{Node}
use Rattle.da_net.specs.Networks.{item_events}
use Rattle.da_net.specs.Nets.{rejecting_claim}
use Rattle.da_net.specs.Seats.{alarm_of}
use Rattle.da_net.proofs.SeatLemmas.{light_in, same_claims, claim_with}
use Rattle.da_net.proofs.seats.claim.Goals as goal

-- a light node answers the claim that it holds
pub returns-in-Light : goal.returns-in-Light
returns-in-Light g c =
    let header = c.requires.seat.0 in
    let items = c.requires.seat.1 in
    let is = light_in g.F.Picker.picks header items c.args.seat.now c.in-Light.node c.in-Light.is c.requires.seat.2 in
    same_claims c.light_laws.ensures.once c.in-Light.node.header (item_events items) (option_copied c.claim.result) c.in-Light.node.claim
    (c.claim.ensures is.plan (item_events items) is.stands) is.stands.claim
    ∙ sym (claim_with c.in-Light.node.claim)
    ∙ ap (λ (n : Node g.row.F.Denot). rejecting_claim (alarm_of n)) (sym c.in-Light.is)
