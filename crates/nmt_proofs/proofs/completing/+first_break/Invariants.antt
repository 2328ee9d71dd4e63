use Rattle.nmt_proofs.proofs.completing.+first_break.Given as goal

abbrev pub decreases-first_break : goal.decreases-first_break
decreases-first_break l = l.depth
