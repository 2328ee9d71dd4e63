use Rattle.std.proofs.Common.{length}
use Rattle.blob_commit.proofs.making.+put_subtrees.Given as goal

abbrev pub decreases-put_subtrees : goal.decreases-put_subtrees
decreases-put_subtrees l = length l.sizes.now
