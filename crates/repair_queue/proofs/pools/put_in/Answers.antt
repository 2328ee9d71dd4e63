use Rattle.std.proofs.Common.{◌≡◌, ◌+◌, ◌*◌, ◌<◌, ◌≤◌, true, sym, subst}
use Rattle.std.specs.Prelude.{None, vec_capacity}
use Rattle.namespace_id.specs.Cells.{is_in_square}
use Rattle.axis_roots.specs.declared.message.messages.Message.{Message}
use Rattle.axis_roots.specs.Proved.{kept_message}
use Rattle.repair_queue.specs.Places.{cell_place, IsPlaced}
use Rattle.repair_queue.specs.Slots.{IsPut}
use Rattle.repair_queue.specs.Pools.{PoolParts, slots_by, slot_in, samples_of_row}
use Rattle.repair_queue.proofs.Places.PutInLemmas.{in_put, in_pool, keeps_capacity}
use Rattle.repair_queue.proofs.pools.put_in.Goals as goal

-- the cell is in the square
pub set-requires : goal.set-requires
set-requires c = record {
  cell = subst (λ (m : Message). is_in_square c.pool.inside.places.k m.cell ≡ true) (sym c.message-message.ensures)
      (subst (λ (p : PoolParts). is_in_square p.places.k (kept_message c.args.kept).cell ≡ true) (sym c.pool.view_is) c.requires.cell);
}

-- a pool it stays
pub invariant_of-pool : goal.invariant_of-pool
invariant_of-pool c =
    in_pool c.pool.inside.places.k (cell_place c.pool.inside.places) (cell_place c.set.new.self) c.pool.inside.given.items c.store-place.new.given.items c.pool.inside.free.items
    c.store-place.new.free.items (vec_capacity c.pool.inside.free) c.store-place.result c.args.kept c.pool.invariant
    (subst (λ (p : PoolParts). is_in_square p.places.k (kept_message c.args.kept).cell ≡ true) (sym c.pool.view_is) c.requires.cell) c.store-place.ensures.stored
    (subst (λ (m : Message). IsPlaced (cell_place c.pool.inside.places) (cell_place c.set.new.self) m.axis m.cell c.store-place.result) c.message-message.ensures c.set.ensures.placed)
    c.set.new.self.k (vec_capacity c.store-place.new.free) c.set.ensures.width
    (subst (λ (p : PoolParts). slot_in p (kept_message c.args.kept).axis (kept_message c.args.kept).cell ≡ None) (sym c.pool.view_is) c.requires.empty)
    (subst (λ (p : PoolParts). samples_of_row p.places.k (slot_in p) (kept_message c.args.kept).cell.row + 1 < 2 * p.places.k) (sym c.pool.view_is) c.requires.few)
    c.store-place.ensures.free

-- its slot is filled
pub returns-clause-put : goal.returns-clause-put
returns-clause-put c =
    subst (λ (p : PoolParts). IsPut (slot_in p) (slots_by c.store-place.new.given.items (cell_place c.set.new.self)) (kept_message c.args.kept).axis (kept_message c.args.kept).cell
    c.args.kept) c.pool.view_is
    (in_put c.pool.inside.places.k (cell_place c.pool.inside.places) (cell_place c.set.new.self) c.pool.inside.given.items c.store-place.new.given.items c.pool.inside.free.items
    c.store-place.new.free.items (vec_capacity c.pool.inside.free) c.store-place.result c.args.kept c.pool.invariant
    (subst (λ (p : PoolParts). is_in_square p.places.k (kept_message c.args.kept).cell ≡ true) (sym c.pool.view_is) c.requires.cell) c.store-place.ensures.stored
    (subst (λ (m : Message). IsPlaced (cell_place c.pool.inside.places) (cell_place c.set.new.self) m.axis m.cell c.store-place.result) c.message-message.ensures c.set.ensures.placed))

-- and it has as much capacity
pub returns-clause-capacity : goal.returns-clause-capacity
returns-clause-capacity c =
    subst (λ (p : PoolParts). 2 * p.places.k * (2 * p.places.k) ≤ p.capacity → 2 * c.set.new.self.k * (2 * c.set.new.self.k) ≤ vec_capacity c.store-place.new.given) c.pool.view_is
    (keeps_capacity c.pool.inside.places.k c.set.new.self.k (vec_capacity c.pool.inside.given) (vec_capacity c.store-place.new.given) c.set.ensures.width
    c.store-place.ensures.given)
