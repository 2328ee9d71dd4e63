use Rattle.std.proofs.Common.{◌*◌}
use Rattle.repair_queue.proofs.Places.PoolLemmas.{no_places}
use Rattle.repair_queue.proofs.placing.Places.new.Goals as goal

-- both lists are of zeros
pub returns-clause-none : goal.returns-clause-none
returns-clause-none c =
    no_places c.args.k (2 * c.args.k * (2 * c.args.k)) c.in_ok-rows.rows.items c.in_ok-cols.cols.items
    (c.in_ok-rows.ensures.items_if_clones_equal (λ y same. same)) (c.in_ok-cols.ensures.items_if_clones_equal (λ y same. same))
