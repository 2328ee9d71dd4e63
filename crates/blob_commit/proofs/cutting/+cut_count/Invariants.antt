use Rattle.blob_commit.proofs.cutting.+cut_count.Given as goal

abbrev pub decreases-cut_count : goal.decreases-cut_count
decreases-cut_count l = l.levels
