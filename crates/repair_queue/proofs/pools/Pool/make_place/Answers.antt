use Rattle.std.proofs.Common.{List, sym, subst, vec_capacity}
use Rattle.std.specs.Prelude.{Option}
use Rattle.axis_roots.specs.declared.message.proved.Proved.{Proved}
use Rattle.repair_queue.specs.Places.{cell_place}
use Rattle.repair_queue.specs.Pools.{IsPool}
use Rattle.repair_queue.proofs.pools.Pool.make_place.Goals as goal

-- it has the same samples, whether there was memory
pub invariant_of-self : goal.invariant_of-self
invariant_of-self c =
    subst (λ (l : List (Option Proved)). IsPool c.self.inside.places.k (cell_place c.self.inside.places) l c.self.inside.free.items (vec_capacity c.self.inside.free))
    (sym c.reserve.ensures.items) c.self.invariant

-- or not
pub invariant_of-self-2 : goal.invariant_of-self-2
invariant_of-self-2 c =
    subst (λ (l : List (Option Proved)). IsPool c.self.inside.places.k (cell_place c.self.inside.places) l c.self.inside.free.items (vec_capacity c.self.inside.free))
    (sym c.reserve.ensures.items) c.self.invariant
