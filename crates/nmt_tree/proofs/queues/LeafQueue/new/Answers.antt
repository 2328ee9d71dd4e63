use Rattle.std.proofs.Common.{refl}
use Rattle.nmt_tree.specs.Levels.{leaf_digests}
use Rattle.nmt_tree.proofs.queues.LeafQueue.new.Goals as goal

-- nothing stands at the front
pub returns : goal.returns
unfolding leaf_digests
returns c = refl
