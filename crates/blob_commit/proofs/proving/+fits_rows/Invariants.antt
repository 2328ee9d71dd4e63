use Rattle.std.proofs.Common.{length}
use Rattle.blob_commit.proofs.proving.+fits_rows.Given as goal

abbrev pub decreases-fits_rows : goal.decreases-fits_rows
decreases-fits_rows l = length l.rows.now
