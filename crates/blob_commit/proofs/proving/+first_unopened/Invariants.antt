use Rattle.std.proofs.Common.{length}
use Rattle.blob_commit.proofs.proving.+first_unopened.Given as goal

abbrev pub decreases-first_unopened : goal.decreases-first_unopened
decreases-first_unopened l = length l.rows.now
