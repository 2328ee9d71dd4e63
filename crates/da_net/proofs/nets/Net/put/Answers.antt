use Rattle.std.proofs.Common.{◌≡◌, ◌∙◌, ◌<◌, ◌++◌, ◌∷◌, [], List, false, length, refl, sym, subst, arith}
use Rattle.std.proofs.lemmas.List.{length-map}
use Rattle.da_net.specs.declared.items.NetEvent.TheVariants as event
use Rattle.da_net.specs.declared.items.Kept.{Kept}
use Rattle.da_net.specs.declared.items.Kept.TheVariants as kept
use Rattle.da_net.specs.declared.seats.Entry.{Entry}
use Rattle.da_net.specs.Networks.{IsNetItem}
use Rattle.da_net.specs.Nets.{NetParts, is_full}
use Rattle.da_net.specs.Seats.{pool_items, IsNet}
use Rattle.da_net.proofs.NetLemmas.{seen, net_put, room_for_step, room_for_item}
use Rattle.da_net.proofs.nets.Net.put.Goals as goal

-- there is capacity for the item
pub push_reserved-requires : goal.push_reserved-requires
push_reserved-requires g c =
    let free = subst (λ (n : NetParts). is_full n (event.Put c.args.item) ≡ false) (sym c.self.view_is) c.requires in
    let net : NetParts = seen c.self.inside.header c.self.inside.seats.items c.self.inside.most_items c.self.inside.most_steps c.self.inside.pool.items
    c.self.inside.steps.items in
    let some : length (pool_items c.self.inside.pool.items) < c.self.inside.most_items = room_for_item net (event.Put c.args.item) free refl in
    let count = length-map c.self.inside.pool.items (λ (e : Entry). e.item) in
    omega (arith, some, count, c.self.inside.pool.ok.0, c.self.invariant.2.places)

-- and for the step
pub push_reserved-requires-2 : goal.push_reserved-requires-2
push_reserved-requires-2 g c =
    let free = subst (λ (n : NetParts). is_full n (event.Put c.args.item) ≡ false) (sym c.self.view_is) c.requires in
    let net : NetParts = seen c.self.inside.header c.self.inside.seats.items c.self.inside.most_items c.self.inside.most_steps c.self.inside.pool.items
    c.self.inside.steps.items in
    let step : length c.self.inside.steps.items < c.self.inside.most_steps = room_for_step net (event.Put c.args.item) free in
    omega (arith, step, c.self.inside.steps.ok.0, c.self.invariant.3.places)

-- it is a network again
pub invariant_of-self : goal.invariant_of-self
invariant_of-self g c =
    let free = subst (λ (n : NetParts). is_full n (event.Put c.args.item) ≡ false) (sym c.self.view_is) c.requires in
    let net : NetParts = seen c.self.inside.header c.self.inside.seats.items c.self.inside.most_items c.self.inside.most_steps c.self.inside.pool.items
    c.self.inside.steps.items in
    let step : length c.self.inside.steps.items < c.self.inside.most_steps = room_for_step net (event.Put c.args.item) free in
    let some : length (pool_items c.self.inside.pool.items) < c.self.inside.most_items = room_for_item net (event.Put c.args.item) free refl in
    let count = length-map c.self.inside.pool.items (λ (e : Entry). e.item) in
    let places = c.self.invariant.2 in
    let more = c.self.invariant.3 in (
      c.judge-entry.ensures.room ∙ c.self.invariant.0,
      subst (λ (l : List Kept). IsNet g.F.Picker.picks c.self.inside.header c.self.inside.seats.items c.push_reserved.new.self.items l) (sym c.push_reserved-2.ensures.items)
          (subst (λ (l : List Entry). IsNet g.F.Picker.picks c.self.inside.header c.self.inside.seats.items l (c.self.inside.steps.items ++ kept.Put ∷ [])) (sym c.push_reserved.ensures.items)
          (net_put g.F.Picker.picks c.self.inside.header c.self.inside.seats.items c.self.inside.pool.items c.self.inside.steps.items c.self.invariant.1 c.judge-entry.result
          (subst IsNetItem (sym c.judge-entry.ensures.item) c.judge-entry.ensures.shape) c.judge-entry.ensures.judged)),
      record {
        few = omega (arith, c.push_reserved.ensures.len, c.self.inside.pool.ok.0, some, count);
        places = omega (arith, c.push_reserved.ensures.capacity, places.places);
      },
      record {
        few = omega (arith, c.push_reserved-2.ensures.len, c.self.inside.steps.ok.0, step);
        places = omega (arith, c.push_reserved-2.ensures.capacity, more.places);
      },
    )
