use Rattle.std.proofs.Common.{◌≡◌, ◌∙◌, ◌<◌, ◌++◌, ◌∷◌, [], ℕ, List, Bool, true, false, set, length, refl, sym, ap, subst, arith}
use Rattle.std.specs.Prelude.{Option, is_some}
use Rattle.std.specs.List.{list_any}
use Rattle.std.proofs.lemmas.List.{length-map}
use Rattle.da_net.specs.declared.items.NetEvent.TheVariants as event
use Rattle.da_net.specs.declared.items.Kept.{Kept}
use Rattle.da_net.specs.declared.items.Kept.TheVariants as kept
use Rattle.da_net.specs.declared.seats.Entry.{Entry}
use Rattle.da_net.specs.Networks.{Standing, handed, Network}
use Rattle.da_net.specs.Nets.{NetParts, is_full, is_publishing, alarm_at, rejecting_claim, IsSameNet, IsPublished}
use Rattle.da_net.specs.Seats.{node_kind, alarm_of, pool_items, HasUnpublished, IsNet}
use Rattle.da_net.proofs.NetLemmas.{seen, net_publish, is_published, claimed, claim_alarm, alarm_there, same_network, room_for_step, room_for_item, seat_read}
use Rattle.da_net.proofs.nets.Net.publish.Goals as goal

-- the seat was handed what it was
pub copied-claim-requires-clause-seat : goal.copied-claim-requires-clause-seat
copied-claim-requires-clause-seat g c =
    let pool = c.self.inside.pool in
    let seats = c.self.inside.seats in
    let steps = c.self.inside.steps.items in
    let at = seat_read seats.items c.args.by c.index_mut.result.now (ap (λ (n : NetParts). n.nodes) c.self.view_is) c.requires.node c.index_mut.ensures.value in
    (handed (pool_items pool.items) steps c.args.by, c.self.invariant.1.seated c.args.by c.index_mut.result.now at)

-- it holds a claim
pub copied-claim-requires-clause-rejects : goal.copied-claim-requires-clause-rejects
copied-claim-requires-clause-rejects g c =
    let pool = c.self.inside.pool in
    let seats = c.self.inside.seats in
    let steps = c.self.inside.steps.items in
    let at = seat_read seats.items c.args.by c.index_mut.result.now (ap (λ (n : NetParts). n.nodes) c.self.view_is) c.requires.node c.index_mut.ensures.value in
    subst (λ (a : Option Standing). is_some (rejecting_claim a) ≡ true)
    (alarm_there c.self.inside.header seats.items c.self.inside.most_items c.self.inside.most_steps pool.items steps c.args.by c.index_mut.result.now at)
    (subst (λ (n : NetParts). is_some (rejecting_claim (alarm_at n c.args.by)) ≡ true) (sym c.self.view_is) c.requires.rejects)

-- and has a room for publishing it
pub copied-claim-requires-clause-room : goal.copied-claim-requires-clause-room
copied-claim-requires-clause-room g c =
    let seats = c.self.inside.seats in
    let at = seat_read seats.items c.args.by c.index_mut.result.now (ap (λ (n : NetParts). n.nodes) c.self.view_is) c.requires.node c.index_mut.ensures.value in
    subst (λ (b : Bool). HasUnpublished c.self.inside.header.k b c.index_mut.result.now.published)
    (subst (λ (n : NetParts). list_any (is_publishing c.args.by) n.steps ≡ false) (sym c.self.view_is) c.requires.first)
    (c.self.invariant.1.unpublished c.args.by c.index_mut.result.now at)

pub push_reserved-requires : goal.push_reserved-requires
push_reserved-requires g c =
    let pool = c.self.inside.pool in
    let seats = c.self.inside.seats in
    let steps = c.self.inside.steps.items in
    let net : NetParts = seen c.self.inside.header seats.items c.self.inside.most_items c.self.inside.most_steps pool.items steps in
    let free = subst (λ (n : NetParts). is_full n (event.Publish c.args.by) ≡ false) (sym c.self.view_is) c.requires.room in
    let some : length (pool_items pool.items) < c.self.inside.most_items = room_for_item net (event.Publish c.args.by) free refl in
    let count = length-map pool.items (λ (e : Entry). e.item) in
    omega (arith, some, count, pool.ok.0, c.self.invariant.2.places)

pub push_reserved-requires-2 : goal.push_reserved-requires-2
push_reserved-requires-2 g c =
    let pool = c.self.inside.pool in
    let seats = c.self.inside.seats in
    let steps = c.self.inside.steps.items in
    let net : NetParts = seen c.self.inside.header seats.items c.self.inside.most_items c.self.inside.most_steps pool.items steps in
    let free = subst (λ (n : NetParts). is_full n (event.Publish c.args.by) ≡ false) (sym c.self.view_is) c.requires.room in
    let step : length steps < c.self.inside.most_steps = room_for_step net (event.Publish c.args.by) free in
    omega (arith, step, c.self.inside.steps.ok.0, c.self.invariant.3.places)

-- it is a network again
pub invariant_of-self : goal.invariant_of-self
invariant_of-self g c =
    let pool = c.self.inside.pool in
    let seats = c.self.inside.seats in
    let steps = c.self.inside.steps.items in
    let net : NetParts = seen c.self.inside.header seats.items c.self.inside.most_items c.self.inside.most_steps pool.items steps in
    let at = seat_read seats.items c.args.by c.index_mut.result.now (ap (λ (n : NetParts). n.nodes) c.self.view_is) c.requires.node c.index_mut.ensures.value in
    let free = subst (λ (n : NetParts). is_full n (event.Publish c.args.by) ≡ false) (sym c.self.view_is) c.requires.room in
    let step : length steps < c.self.inside.most_steps = room_for_step net (event.Publish c.args.by) free in
    let some : length (pool_items pool.items) < c.self.inside.most_items = room_for_item net (event.Publish c.args.by) free refl in
    let count = length-map pool.items (λ (e : Entry). e.item) in
    let copied = c.copied-claim.ensures in (
      c.self.invariant.0,
      subst (λ (l : List Kept). IsNet g.F.Picker.picks c.self.inside.header (set seats.items c.args.by c.copied-claim.new.seat) c.push_reserved.new.self.items l)
          (sym c.push_reserved-2.ensures.items)
          (subst (λ (l : List Entry). IsNet g.F.Picker.picks c.self.inside.header (set seats.items c.args.by c.copied-claim.new.seat) l (steps ++ kept.Publish c.args.by ∷ []))
          (sym c.push_reserved.ensures.items)
          (net_publish g.F.Picker.picks c.self.inside.header seats.items pool.items steps c.self.invariant.1 c.args.by c.index_mut.result.now c.copied-claim.new.seat at
          c.copied-claim.result copied)),
      record {
        few = omega (arith, c.push_reserved.ensures.len, pool.ok.0, some, count);
        places = omega (arith, c.push_reserved.ensures.capacity, c.self.invariant.2.places);
      },
      record {
        few = omega (arith, c.push_reserved-2.ensures.len, c.self.inside.steps.ok.0, step);
        places = omega (arith, c.push_reserved-2.ensures.capacity, c.self.invariant.3.places);
      },
    )

pub returns-clause-kept : goal.returns-clause-kept
returns-clause-kept g c =
    let pool = c.self.inside.pool in
    let seats = c.self.inside.seats in
    let steps = c.self.inside.steps.items in
    let at = seat_read seats.items c.args.by c.index_mut.result.now (ap (λ (n : NetParts). n.nodes) c.self.view_is) c.requires.node c.index_mut.ensures.value in
    subst (λ (n : NetParts). IsSameNet n (seen c.self.inside.header (set seats.items c.args.by c.copied-claim.new.seat) c.self.inside.most_items c.self.inside.most_steps
    c.push_reserved.new.self.items c.push_reserved-2.new.self.items)) c.self.view_is
    (record {
      header = refl;
      nodes = ap (λ (n : Network). n.nodes) (same_network g.F.Picker.picks c.self.inside.header seats.items pool.items steps c.self.invariant.1
          c.args.by c.index_mut.result.now c.copied-claim.new.seat at (ap node_kind c.copied-claim.ensures.node_is));
      most_items = refl;
      most_steps = refl;
    })

-- the claim is in the pool
pub returns-clause-published : goal.returns-clause-published
returns-clause-published g c =
    let pool = c.self.inside.pool in
    let seats = c.self.inside.seats in
    let steps = c.self.inside.steps.items in
    let net : NetParts = seen c.self.inside.header seats.items c.self.inside.most_items c.self.inside.most_steps pool.items steps in
    let at = seat_read seats.items c.args.by c.index_mut.result.now (ap (λ (n : NetParts). n.nodes) c.self.view_is) c.requires.node c.index_mut.ensures.value in
    let copied = c.copied-claim.ensures in
    let length_is : c.len-place.result ≡ length (pool_items pool.items) =
    omega (arith, c.len-place.ensures, pool.ok.0, length-map pool.items (λ (e : Entry). e.item)) in
    subst (λ (n : NetParts). IsPublished n (seen c.self.inside.header (set seats.items c.args.by c.copied-claim.new.seat) c.self.inside.most_items c.self.inside.most_steps
    c.push_reserved.new.self.items c.push_reserved-2.new.self.items) c.args.by c.len-place.result) c.self.view_is
    (subst (λ (l : List Kept). IsPublished net (seen c.self.inside.header (set seats.items c.args.by c.copied-claim.new.seat) c.self.inside.most_items
    c.self.inside.most_steps c.push_reserved.new.self.items l) c.args.by c.len-place.result) (sym c.push_reserved-2.ensures.items)
    (subst (λ (l : List Entry). IsPublished net (seen c.self.inside.header (set seats.items c.args.by c.copied-claim.new.seat) c.self.inside.most_items
    c.self.inside.most_steps l (steps ++ kept.Publish c.args.by ∷ [])) c.args.by c.len-place.result) (sym c.push_reserved.ensures.items)
    (subst (λ (n : ℕ). IsPublished net (seen c.self.inside.header (set seats.items c.args.by c.copied-claim.new.seat) c.self.inside.most_items
    c.self.inside.most_steps (pool.items ++ claimed g.F.Picker.picks c.self.inside.header seats.items pool.items steps c.self.invariant.1 c.args.by c.index_mut.result.now
    c.copied-claim.new.seat at c.copied-claim.result copied ∷ []) (steps ++ kept.Publish c.args.by ∷ [])) c.args.by n) (sym length_is) (
      c.copied-claim.result,
      alarm_there c.self.inside.header seats.items c.self.inside.most_items c.self.inside.most_steps pool.items steps c.args.by c.index_mut.result.now at
          ∙ claim_alarm (alarm_of c.index_mut.result.now.node) c.copied-claim.result copied.held,
      is_published g.F.Picker.picks c.self.inside.header seats.items pool.items steps c.self.invariant.1 c.args.by c.index_mut.result.now c.copied-claim.new.seat at
          c.copied-claim.result copied c.self.inside.most_items c.self.inside.most_steps,
    ))))
