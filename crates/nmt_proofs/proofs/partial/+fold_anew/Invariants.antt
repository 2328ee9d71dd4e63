use Rattle.nmt_proofs.proofs.partial.+fold_anew.Given as goal

abbrev pub decreases-fold_anew : goal.decreases-fold_anew
decreases-fold_anew l = l.depth
