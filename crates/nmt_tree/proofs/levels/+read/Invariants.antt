use Rattle.nmt_tree.proofs.levels.+read.Given as goal

abbrev pub decreases-read : goal.decreases-read
decreases-read l = l.size
