use Rattle.std.proofs.Common.{◌≡◌, ◌∙◌, None, ap, subst}
use Rattle.da_net.specs.Networks.{handed, IsRun}
use Rattle.da_net.specs.Nets.{NetParts, network_of, alarm_at, HasState}
use Rattle.da_net.specs.Seats.{pool_items}
use Rattle.da_net.proofs.NetLemmas.{alarm_there, standing_there, seat_read}
use Rattle.da_net.proofs.StateLemmas.{state_rejects, state_settled, state_names, node_calm}
use Rattle.da_net.proofs.nets.Net.state.Goals as goal

-- the node of the seat stands so
pub returns-clause-state : goal.returns-clause-state
returns-clause-state g c =
    let seats = c.self.inside.seats in
    let at = seat_read seats.items c.args.node c.index.result.now (ap (λ (n : NetParts). n.nodes) c.self.view_is) c.requires c.index.ensures in
    let items = handed (pool_items c.self.inside.pool.items) c.self.inside.steps.items c.args.node in
    subst (λ (n : NetParts). HasState n c.args.node c.state.result) c.self.view_is
    (standing_there c.self.inside.header seats.items c.self.inside.most_items c.self.inside.most_steps c.self.inside.pool.items c.self.inside.steps.items
    c.args.node c.index.result.now c.state.result at (c.state.ensures c.self.inside.header items (c.self.invariant.1.seated c.args.node c.index.result.now at)))

pub returns-clause-rejects : goal.returns-clause-rejects
returns-clause-rejects g c = state_rejects c.args.self.now c.args.node c.state.result (returns-clause-state g c)

pub returns-clause-settled : goal.returns-clause-settled
returns-clause-settled g c = state_settled c.args.self.now c.args.node c.state.result (returns-clause-state g c)

pub returns-clause-own : goal.returns-clause-own
returns-clause-own g c =
    state_names c.args.self.now c.args.node c.state.result
    (subst (λ (n : NetParts). IsRun (network_of n) n.pool n.steps) c.self.view_is c.self.invariant.1.run) (returns-clause-state g c)

-- in another state nothing alarmed it
pub returns-clause-calm : goal.returns-clause-calm
returns-clause-calm g c = λ not_rejected not_clash.
    let seats = c.self.inside.seats in
    let at = seat_read seats.items c.args.node c.index.result.now (ap (λ (n : NetParts). n.nodes) c.self.view_is) c.requires c.index.ensures in
    let items = handed (pool_items c.self.inside.pool.items) c.self.inside.steps.items c.args.node in
    let found = c.state.ensures c.self.inside.header items (c.self.invariant.1.seated c.args.node c.index.result.now at) in
    subst (λ (n : NetParts). alarm_at n c.args.node ≡ None) c.self.view_is
    (alarm_there c.self.inside.header seats.items c.self.inside.most_items c.self.inside.most_steps c.self.inside.pool.items c.self.inside.steps.items
    c.args.node c.index.result.now at
    ∙ node_calm c.index.result.now.node found.0 c.state.result found.1.fits found.2 not_rejected not_clash)
