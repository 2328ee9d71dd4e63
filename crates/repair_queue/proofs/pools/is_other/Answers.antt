use Rattle.repair_queue.specs.Pools.{slot_in}
use Rattle.repair_queue.proofs.Places.ApartLemmas.{found_apart}
use Rattle.repair_queue.proofs.pools.is_other.Goals as goal

-- the sample that is kept shows another share
pub returns-in-Some-clause-other : goal.returns-in-Some-clause-other
returns-in-Some-clause-other c = λ other.
    found_apart (slot_in c.args.pool.now c.args.axis c.args.cell) c.in-Some.kept.now c.message.result.now c.args.share.now c.ne.result c.in-Some.ensures
    c.message.ensures c.ne.ensures other
