use Rattle.befp_verify.proofs.compacting.+merge.Given as goal

abbrev pub decreases-merge : goal.decreases-merge
decreases-merge l = l.depth
