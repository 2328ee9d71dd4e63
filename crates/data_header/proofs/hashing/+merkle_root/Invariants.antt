use Rattle.std.proofs.Common.{length}
use Rattle.data_header.proofs.hashing.+merkle_root.Given as goal

abbrev pub decreases-merkle_root : goal.decreases-merkle_root
decreases-merkle_root l = length l.digests.now
