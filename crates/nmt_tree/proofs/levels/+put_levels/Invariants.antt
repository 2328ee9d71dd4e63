use Rattle.nmt_tree.proofs.levels.+put_levels.Given as goal

abbrev pub decreases-put_levels : goal.decreases-put_levels
decreases-put_levels l = l.count
