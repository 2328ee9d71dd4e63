use Rattle.repair_queue.specs.Pools.{slot_in}
use Rattle.repair_queue.proofs.Feeding.KeepNewLemmas.{shows_same}
use Rattle.repair_queue.proofs.entering.shows.Goals as goal

-- the sample shows the share
pub returns-in-Some : goal.returns-in-Some
returns-in-Some c = record {
  shows = λ t. shows_same (slot_in c.args.pool.now c.args.axis c.args.cell) c.in-Some.kept.now c.message.result.now c.args.share.now c.eq.result c.in-Some.ensures
      c.message.ensures c.eq.ensures t;
}
