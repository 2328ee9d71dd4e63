use Rattle.std.proofs.Common.{length}
use Rattle.blob_commit.proofs.committing.+subtree_root.Given as goal

abbrev pub decreases-subtree_root : goal.decreases-subtree_root
decreases-subtree_root l = length l.shares.now
