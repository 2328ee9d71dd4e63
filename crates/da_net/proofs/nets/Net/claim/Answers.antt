use Rattle.std.proofs.Common.{◌∙◌, sym, ap, subst}
use Rattle.std.specs.Prelude.{IfSome, option_copied}
use Rattle.axis_roots.specs.Claims.{Accepts}
use Rattle.data_header.specs.Headers.{Roots}
use Rattle.da_net.specs.Networks.{handed}
use Rattle.da_net.specs.Nets.{NetParts, alarm_at, rejecting_claim}
use Rattle.da_net.specs.Seats.{pool_items}
use Rattle.da_net.proofs.NetLemmas.{alarm_there, claim_accepts, seat_read}
use Rattle.da_net.proofs.nets.Net.claim.Goals as goal

-- the seat was handed what it was
pub claim-requires : goal.claim-requires
claim-requires g c =
    let seats = c.self.inside.seats in
    let at = seat_read seats.items c.args.node c.index.result.now (ap (λ (n : NetParts). n.nodes) c.self.view_is) c.requires c.index.ensures in
    record {
      seat = (
        c.self.inside.header,
        handed (pool_items c.self.inside.pool.items) c.self.inside.steps.items c.args.node,
        c.self.invariant.1.seated c.args.node c.index.result.now at,
      );
    }

-- it is the seat's claim
pub returns-clause-value : goal.returns-clause-value
returns-clause-value g c =
    let seats = c.self.inside.seats in
    let at = seat_read seats.items c.args.node c.index.result.now (ap (λ (n : NetParts). n.nodes) c.self.view_is) c.requires c.index.ensures in
    let alarm = alarm_there c.self.inside.header seats.items c.self.inside.most_items c.self.inside.most_steps c.self.inside.pool.items c.self.inside.steps.items
    c.args.node c.index.result.now at in
    c.claim.ensures ∙ ap rejecting_claim (sym alarm) ∙ ap (λ (n : NetParts). rejecting_claim (alarm_at n c.args.node)) c.self.view_is

-- and accepted
pub returns-clause-accepts : goal.returns-clause-accepts
returns-clause-accepts g c =
    let seats = c.self.inside.seats in
    let at = seat_read seats.items c.args.node c.index.result.now (ap (λ (n : NetParts). n.nodes) c.self.view_is) c.requires c.index.ensures in
    let items = handed (pool_items c.self.inside.pool.items) c.self.inside.steps.items c.args.node in
    subst (λ (h : Roots). IfSome (option_copied c.claim.result) (Accepts h)) (ap (λ (n : NetParts). n.header) c.self.view_is)
    (claim_accepts g.F.Picker.picks c.self.inside.header items c.index.result.now.node (option_copied c.claim.result) c.claim.ensures
    (c.self.invariant.1.seated c.args.node c.index.result.now at).is_node)
