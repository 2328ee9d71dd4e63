use Rattle.blob_commit.proofs.hashing.+root_over.Given as goal

abbrev pub decreases-root_over : goal.decreases-root_over
decreases-root_over l = l.depth
