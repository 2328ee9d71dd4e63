use Rattle.hash_clash.proofs.sides.+digest.Given as goal

abbrev pub decreases-digest : goal.decreases-digest
decreases-digest l = l.depth
