use Rattle.std.proofs.Common.{◌∙◌, List, [], ◌∷◌, ◌++◌, ap}
use Rattle.std.specs.Prelude.{Option, None}
use Rattle.axis_roots.specs.declared.message.proved.Proved.{Proved}
use Rattle.repair_queue.specs.Places.{cell_place}
use Rattle.repair_queue.proofs.Places.PutInLemmas.{nothing_kept, new_pool}
use Rattle.repair_queue.proofs.pools.Pool.new.Goals as goal

-- no sample is kept
pub invariant_of-result : goal.invariant_of-result
invariant_of-result c =
    new_pool c.args.k c.in_ok-table.table.k (cell_place c.in_ok-table.table) c.push.new.self.items c.in_ok-free.free.items _ c.in_ok-table.ensures.width c.requires.width
    c.in_ok-table.ensures.none (c.in-Ok.ensures.items ∙ ap (λ (l : List (Option Proved)). l ++ None ∷ []) c.in_ok-given.ensures.items) c.in_ok-free.ensures.items
    c.in_ok-free.ensures.capacity

pub returns-clause-empty : goal.returns-clause-empty
returns-clause-empty c =
    nothing_kept c.push.new.self.items (cell_place c.in_ok-table.table) (c.in-Ok.ensures.items ∙ ap (λ (l : List (Option Proved)). l ++ None ∷ []) c.in_ok-given.ensures.items)
