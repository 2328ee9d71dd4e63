use Rattle.std.proofs.Common.{◌≡◌, ◌∙◌, Some, None, slice_get, sym, ap, subst}
use Rattle.std.specs.Prelude.{option_map}
use Rattle.std.proofs.lemmas.Option.{slice_get-map, same_Some}
use Rattle.da_net.specs.declared.seats.Seat.{Seat}
use Rattle.da_net.specs.Networks.{NodeKind, handed}
use Rattle.da_net.specs.Nets.{NetParts, alarm_at, AreMissed}
use Rattle.da_net.specs.Seats.{node_kind, pool_items}
use Rattle.da_net.proofs.NetLemmas.{alarm_there, seat_read}
use Rattle.da_net.proofs.nets.Net.missing.Goals as goal

-- nothing alarmed the node of the seat
pub missing-requires-clause-open : goal.missing-requires-clause-open
missing-requires-clause-open g c =
    let seats = c.self.inside.seats in
    let at = seat_read seats.items c.args.node c.index.result.now (ap (λ (n : NetParts). n.nodes) c.self.view_is) c.requires.node c.index.ensures in
    sym (alarm_there c.self.inside.header seats.items c.self.inside.most_items c.self.inside.most_steps c.self.inside.pool.items c.self.inside.steps.items
    c.args.node c.index.result.now at)
    ∙ subst (λ (n : NetParts). alarm_at n c.args.node ≡ None) (sym c.self.view_is) c.requires.open

-- the seat was handed what it was
pub missing-requires-clause-seat : goal.missing-requires-clause-seat
missing-requires-clause-seat g c =
    let seats = c.self.inside.seats in
    let at = seat_read seats.items c.args.node c.index.result.now (ap (λ (n : NetParts). n.nodes) c.self.view_is) c.requires.node c.index.ensures in (
      c.self.inside.header,
      handed (pool_items c.self.inside.pool.items) c.self.inside.steps.items c.args.node,
      c.self.invariant.1.seated c.args.node c.index.result.now at,
      c.requires.room ∙ ap (λ (n : NetParts). n.header.k) (sym c.self.view_is),
    )

-- and misses these cells
pub returns-clause-missed : goal.returns-clause-missed
returns-clause-missed g c = λ kind is.
    let seats = c.self.inside.seats in
    let at = seat_read seats.items c.args.node c.index.result.now (ap (λ (n : NetParts). n.nodes) c.self.view_is) c.requires.node c.index.ensures in
    let items = handed (pool_items c.self.inside.pool.items) c.self.inside.steps.items c.args.node in
    let there : slice_get _ c.args.node ≡ Some (node_kind c.index.result.now.node) =
    slice_get-map (λ (s : Seat _). node_kind s.node) seats.items c.args.node ∙ ap (option_map (λ (s : Seat _). node_kind s.node)) at in
    let same : node_kind c.index.result.now.node ≡ kind =
    same_Some (node_kind c.index.result.now.node) kind (sym there ∙ ap (λ (n : NetParts). slice_get n.nodes c.args.node) c.self.view_is ∙ is) in
    subst (λ (n : NetParts). AreMissed n.header kind (handed n.pool n.steps c.args.node) c.missing.new.room) c.self.view_is
    (subst (λ (k : NodeKind). AreMissed c.self.inside.header k items c.missing.new.room) same
    (c.missing.ensures.missed c.self.inside.header items (c.self.invariant.1.seated c.args.node c.index.result.now at)))
