use Rattle.std.proofs.Common.{length}
use Rattle.nmt_tree.proofs.folding.+fold.Given as goal

abbrev pub decreases-fold : goal.decreases-fold
decreases-fold l = length l.digests.now
