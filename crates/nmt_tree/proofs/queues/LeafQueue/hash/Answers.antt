use Rattle.std.proofs.Common.{refl}
use Rattle.nmt_tree.specs.Levels.{leaf_digests}
use Rattle.nmt_tree.proofs.queues.LeafQueue.hash.Goals as goal

-- none wait any more
pub returns-clause-waiting : goal.returns-clause-waiting
unfolding leaf_digests
returns-clause-waiting c = refl
