use Rattle.std.proofs.Common.{length}
use Rattle.blob_commit.proofs.proving.+first_unled.Given as goal

abbrev pub decreases-first_unled : goal.decreases-first_unled
decreases-first_unled l = length l.rows.now
