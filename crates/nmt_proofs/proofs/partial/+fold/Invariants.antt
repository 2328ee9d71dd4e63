use Rattle.nmt_proofs.proofs.partial.+fold.Given as goal

abbrev pub decreases-fold : goal.decreases-fold
decreases-fold l = l.depth
