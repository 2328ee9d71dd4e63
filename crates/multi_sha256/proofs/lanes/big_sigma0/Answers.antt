use Rattle.std.proofs.Common.{slice_index, arith}
use Rattle.multi_sha256.proofs.LaneLemmas.{lane_fits}
use Rattle.multi_sha256.proofs.RotationLemmas.{rotated_three}
use Rattle.multi_sha256.proofs.lanes.big_sigma0.Goals as goal

pub returns : goal.returns
returns c j h =
    rw (c.rotate_right-3.ensures j h, c.xor-three.ensures j h, c.rotate_right-2.ensures j h, c.xor-pair.ensures j h, c.rotate_right.ensures j h)
    (rotated_three 32 (slice_index c.args.x j) 2 11 9 (omega arith) (lane_fits c.args.x j c.fits-x h))
