use Rattle.hash_clash.proofs.finding.+find.Given as goal

abbrev pub decreases-find : goal.decreases-find
decreases-find l = l.depth
