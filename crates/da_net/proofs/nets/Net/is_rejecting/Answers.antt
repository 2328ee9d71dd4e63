use Rattle.std.proofs.Common.{◌∙◌, sym, ap}
use Rattle.da_net.specs.Networks.{handed}
use Rattle.da_net.specs.Nets.{NetParts, alarm_at, rejecting_claim, has_claim}
use Rattle.da_net.specs.Seats.{pool_items}
use Rattle.da_net.proofs.NetLemmas.{alarm_there, claim_there, seat_read}
use Rattle.da_net.proofs.nets.Net.is_rejecting.Goals as goal

-- the seat was handed what it was
pub claim-requires : goal.claim-requires
claim-requires g c =
    let seats = c.self.inside.seats in
    let at = seat_read seats.items c.args.node c.index.result.now (ap (λ (n : NetParts). n.nodes) c.self.view_is) c.requires c.index.ensures in
    record {
      seat = (
        c.self.inside.header,
        handed (pool_items c.self.inside.pool.items) c.self.inside.steps.items c.args.node,
        c.self.invariant.1.seated c.args.node c.index.result.now at,
      );
    }

-- it is the seat's claim
pub returns : goal.returns
returns g c =
    let seats = c.self.inside.seats in
    let at = seat_read seats.items c.args.node c.index.result.now (ap (λ (n : NetParts). n.nodes) c.self.view_is) c.requires c.index.ensures in
    let alarm = alarm_there c.self.inside.header seats.items c.self.inside.most_items c.self.inside.most_steps c.self.inside.pool.items c.self.inside.steps.items
    c.args.node c.index.result.now at in
    c.is_some.ensures
    ∙ claim_there c.claim.result
    ∙ ap has_claim (c.claim.ensures ∙ ap rejecting_claim (sym alarm))
    ∙ ap (λ (n : NetParts). has_claim (rejecting_claim (alarm_at n c.args.node))) c.self.view_is
