use Rattle.std.proofs.Common.{rules, ◌≡◌, ◌*◌, ◌<◌, ◌≤◌, ℕ, length, true, sym, subst, set, arith}
use Rattle.std.specs.Prelude.{vec_capacity}
use Rattle.namespace_id.specs.Cells.{is_in_square}
use Rattle.repair_queue.specs.Places.{cell_place}
use Rattle.repair_queue.specs.Slots.{IsEmptied}
use Rattle.repair_queue.specs.Pools.{PoolParts, slots_by, slot_in}
use Rattle.repair_queue.proofs.Places.PutInLemmas.{keeps_capacity}
use Rattle.repair_queue.proofs.Places.TakeOutLemmas.{look_there, out_emptied, out_pool}
use Rattle.repair_queue.proofs.pools.take_out.Goals as goal

-- the cell is in the square
pub at-place-requires : goal.at-place-requires
at-place-requires c = record { cell = subst (λ (p : PoolParts). is_in_square p.places.k c.args.cell ≡ true) (sym c.pool.view_is) c.requires.cell }

-- its slot is empty
pub returns-clause-emptied : goal.returns-clause-emptied
returns-clause-emptied c =
    let within = subst (λ (p : PoolParts). is_in_square p.places.k c.args.cell ≡ true) (sym c.pool.view_is) c.requires.cell in
    let there = look_there c.pool.inside.given.items (cell_place c.pool.inside.places) c.args.axis c.args.cell c.at-place.result c.index.result.now c.is_none.result c.at-place.ensures
    (subst (λ (q : ℕ). q < length c.pool.inside.given.items) (sym c.at-place.ensures) (c.pool.invariant.leads c.args.axis c.args.cell))
    c.index.ensures c.is_none.ensures c.if-is_none.false in
    subst (λ (p : PoolParts). IsEmptied (slot_in p) (slots_by (set c.pool.inside.given.items c.at-place.result c.take.new.self) (cell_place c.set.new.self)) c.args.axis c.args.cell) c.pool.view_is
    (out_emptied c.pool.inside.places.k (cell_place c.pool.inside.places) (cell_place c.set.new.self) c.pool.inside.given.items c.pool.inside.free.items (vec_capacity c.pool.inside.free)
    c.args.axis c.args.cell c.at-place.result there.0 c.take.new.self c.pool.invariant within c.at-place.ensures there.1 c.take.ensures.after c.set.ensures.placed)

-- a pool it stays
pub invariant_of-pool : goal.invariant_of-pool
invariant_of-pool c =
    let within = subst (λ (p : PoolParts). is_in_square p.places.k c.args.cell ≡ true) (sym c.pool.view_is) c.requires.cell in
    let there = look_there c.pool.inside.given.items (cell_place c.pool.inside.places) c.args.axis c.args.cell c.at-place.result c.index.result.now c.is_none.result c.at-place.ensures
    (subst (λ (q : ℕ). q < length c.pool.inside.given.items) (sym c.at-place.ensures) (c.pool.invariant.leads c.args.axis c.args.cell))
    c.index.ensures c.is_none.ensures c.if-is_none.false in
    out_pool c.pool.inside.places.k (cell_place c.pool.inside.places) (cell_place c.set.new.self) c.pool.inside.given.items c.pool.inside.free.items (vec_capacity c.pool.inside.free)
    c.args.axis c.args.cell c.at-place.result there.0 c.take.new.self c.pool.invariant within c.at-place.ensures there.1 c.take.ensures.after c.set.ensures.placed
    c.set.new.self.k (vec_capacity c.push.new.self) c.push.new.self.items c.set.ensures.width (search rules) c.push.ensures.capacity

-- and it has as much capacity
pub returns-clause-capacity : goal.returns-clause-capacity
returns-clause-capacity c =
    subst (λ (p : PoolParts). 2 * p.places.k * (2 * p.places.k) ≤ p.capacity → 2 * c.set.new.self.k * (2 * c.set.new.self.k) ≤ vec_capacity c.pool.inside.given) c.pool.view_is
    (keeps_capacity c.pool.inside.places.k c.set.new.self.k (vec_capacity c.pool.inside.given) (vec_capacity c.pool.inside.given) c.set.ensures.width (omega arith))
