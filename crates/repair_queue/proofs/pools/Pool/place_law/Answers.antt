use Rattle.std.proofs.Common.{subst}
use Rattle.std.specs.Prelude.{vec_capacity}
use Rattle.repair_queue.specs.Pools.{PoolParts, HasPlace, HasFullCapacity}
use Rattle.repair_queue.proofs.Places.PutInLemmas.{room_left}
use Rattle.repair_queue.proofs.pools.Pool.place_law.Goals as goal

-- at most as many samples as cells are kept, but for two
pub returns : goal.returns
returns c =
    let p : PoolParts =
    record { places = c.self.inside.places; given = c.self.inside.given.items; free = c.self.inside.free.items; capacity = vec_capacity c.self.inside.given } in
    subst (λ (q : PoolParts). HasFullCapacity q → HasPlace q) c.self.view_is (room_left p (vec_capacity c.self.inside.free) c.self.invariant)
