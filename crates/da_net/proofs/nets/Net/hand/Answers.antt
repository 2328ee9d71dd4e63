use Rattle.std.proofs.Common.{◌≡◌, ◌<◌, List, Some, false, set, length, slice_get, refl, sym, ap, subst, arith}
use Rattle.std.proofs.lemmas.List.{length-map}
use Rattle.std.proofs.lemmas.Option.{slice_get_read}
use Rattle.da_net.specs.declared.items.NetEvent.TheVariants as event
use Rattle.da_net.specs.declared.items.Kept.{Kept}
use Rattle.da_net.specs.declared.seats.Entry.{Entry}
use Rattle.da_net.specs.Networks.{handed, Network}
use Rattle.da_net.specs.Nets.{NetParts, is_full, IsSameNet, IsHanded}
use Rattle.da_net.specs.Seats.{pool_items, IsNet}
use Rattle.da_net.proofs.NetLemmas.{seen, net_hand, same_network, is_handed, room_for_step, seat_read}
use Rattle.da_net.proofs.nets.Net.hand.Goals as goal

pub hand-requires-clause-seat : goal.hand-requires-clause-seat
hand-requires-clause-seat g c =
    let seats = c.self.inside.seats in
    let at = seat_read seats.items c.args.node c.index_mut-seat.result.now (ap (λ (n : NetParts). n.nodes) c.self.view_is) c.requires.node c.index_mut-seat.ensures.value in (
      handed (pool_items c.self.inside.pool.items) c.self.inside.steps.items c.args.node,
      c.self.invariant.1.seated c.args.node c.index_mut-seat.result.now at,
    )

pub hand-requires-clause-judged : goal.hand-requires-clause-judged
hand-requires-clause-judged g c =
    let pool = c.self.inside.pool in
    let item : c.args.item < length pool.items =
    omega (arith, subst (λ (n : NetParts). c.args.item < length n.pool) (sym c.self.view_is) c.requires.item, length-map pool.items (λ (e : Entry). e.item)) in
    c.self.invariant.1.judged c.args.item c.index.result.now (slice_get_read pool.items (length pool.items) c.args.item c.index.result.now refl item c.index.ensures)

pub push_reserved-requires : goal.push_reserved-requires
push_reserved-requires g c =
    let net : NetParts = seen c.self.inside.header c.self.inside.seats.items c.self.inside.most_items c.self.inside.most_steps c.self.inside.pool.items
    c.self.inside.steps.items in
    let free = subst (λ (n : NetParts). is_full n (event.Hand c.args.item c.args.node) ≡ false) (sym c.self.view_is) c.requires.room in
    let step : length c.self.inside.steps.items < c.self.inside.most_steps = room_for_step net (event.Hand c.args.item c.args.node) free in
    omega (arith, step, c.self.invariant.3.places, c.self.inside.steps.ok.0)

pub invariant_of-self : goal.invariant_of-self
invariant_of-self g c =
    let pool = c.self.inside.pool in
    let seats = c.self.inside.seats in
    let net : NetParts = seen c.self.inside.header seats.items c.self.inside.most_items c.self.inside.most_steps pool.items c.self.inside.steps.items in
    let free = subst (λ (n : NetParts). is_full n (event.Hand c.args.item c.args.node) ≡ false) (sym c.self.view_is) c.requires.room in
    let room : length c.self.inside.steps.items < c.self.inside.most_steps = room_for_step net (event.Hand c.args.item c.args.node) free in
    let at = seat_read seats.items c.args.node c.index_mut-seat.result.now (ap (λ (n : NetParts). n.nodes) c.self.view_is) c.requires.node c.index_mut-seat.ensures.value in
    let item : c.args.item < length pool.items =
    omega (arith, subst (λ (n : NetParts). c.args.item < length n.pool) (sym c.self.view_is) c.requires.item, length-map pool.items (λ (e : Entry). e.item)) in
    let there : slice_get pool.items c.args.item ≡ Some c.index.result.now =
    slice_get_read pool.items (length pool.items) c.args.item c.index.result.now refl item c.index.ensures in
    let step = c.hand.ensures.step (handed (pool_items pool.items) c.self.inside.steps.items c.args.node) (c.self.invariant.1.seated c.args.node c.index_mut-seat.result.now at) in (
      c.self.invariant.0,
      subst (λ (l : List Kept). IsNet g.F.Picker.picks c.self.inside.header (set seats.items c.args.node c.hand.new.seat) pool.items l) (sym c.push_reserved.ensures.items)
          (net_hand g.F.Picker.picks c.self.inside.header seats.items pool.items c.self.inside.steps.items c.self.invariant.1 c.args.node c.index_mut-seat.result.now
          c.hand.new.seat at c.args.item c.index.result.now there step),
      c.self.invariant.2,
      record {
        few = omega (arith, c.push_reserved.ensures.len, c.self.inside.steps.ok.0, room);
        places = omega (arith, c.push_reserved.ensures.capacity, c.self.invariant.3.places);
      },
    )

pub returns-clause-kept : goal.returns-clause-kept
returns-clause-kept g c =
    let seats = c.self.inside.seats in
    let at = seat_read seats.items c.args.node c.index_mut-seat.result.now (ap (λ (n : NetParts). n.nodes) c.self.view_is) c.requires.node c.index_mut-seat.ensures.value in
    let step = c.hand.ensures.step (handed (pool_items c.self.inside.pool.items) c.self.inside.steps.items c.args.node)
    (c.self.invariant.1.seated c.args.node c.index_mut-seat.result.now at) in
    subst (λ (n : NetParts). IsSameNet n (seen c.self.inside.header (set seats.items c.args.node c.hand.new.seat) c.self.inside.most_items c.self.inside.most_steps
    c.self.inside.pool.items c.push_reserved.new.self.items)) c.self.view_is
    (record {
      header = refl;
      nodes = ap (λ (n : Network). n.nodes) (same_network g.F.Picker.picks c.self.inside.header seats.items c.self.inside.pool.items c.self.inside.steps.items c.self.invariant.1
          c.args.node c.index_mut-seat.result.now c.hand.new.seat at step.kind);
      most_items = refl;
      most_steps = refl;
    })

pub returns-clause-handed : goal.returns-clause-handed
returns-clause-handed g c =
    let pool = c.self.inside.pool in
    let seats = c.self.inside.seats in
    let at = seat_read seats.items c.args.node c.index_mut-seat.result.now (ap (λ (n : NetParts). n.nodes) c.self.view_is) c.requires.node c.index_mut-seat.ensures.value in
    let item : c.args.item < length pool.items =
    omega (arith, subst (λ (n : NetParts). c.args.item < length n.pool) (sym c.self.view_is) c.requires.item, length-map pool.items (λ (e : Entry). e.item)) in
    let there : slice_get pool.items c.args.item ≡ Some c.index.result.now =
    slice_get_read pool.items (length pool.items) c.args.item c.index.result.now refl item c.index.ensures in
    let step = c.hand.ensures.step (handed (pool_items pool.items) c.self.inside.steps.items c.args.node) (c.self.invariant.1.seated c.args.node c.index_mut-seat.result.now at) in
    subst (λ (n : NetParts). IsHanded n (seen c.self.inside.header (set seats.items c.args.node c.hand.new.seat) c.self.inside.most_items c.self.inside.most_steps pool.items
    c.push_reserved.new.self.items) c.args.item c.args.node c.state-state.result) c.self.view_is
    (subst (λ (l : List Kept). IsHanded (seen c.self.inside.header seats.items c.self.inside.most_items c.self.inside.most_steps pool.items c.self.inside.steps.items)
    (seen c.self.inside.header (set seats.items c.args.node c.hand.new.seat) c.self.inside.most_items c.self.inside.most_steps pool.items l)
    c.args.item c.args.node c.state-state.result) (sym c.push_reserved.ensures.items)
    (is_handed g.F.Picker.picks c.self.inside.header seats.items c.self.inside.most_items c.self.inside.most_steps pool.items c.self.inside.steps.items c.self.invariant.1
    c.args.node c.index_mut-seat.result.now c.hand.new.seat at c.args.item c.index.result.now there step c.hand.ensures.clashes c.state-state.result c.state-state.ensures))
