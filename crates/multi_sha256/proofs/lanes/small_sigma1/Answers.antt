use Rattle.std.proofs.Common.{ℕ, ◌/◌, ◌^◌, bit_xor, slice_index, ap, arith}
use Rattle.multi_sha256.proofs.LaneLemmas.{lane_fits}
use Rattle.multi_sha256.proofs.RotationLemmas.{rotated_two}
use Rattle.multi_sha256.proofs.lanes.small_sigma1.Goals as goal

pub returns : goal.returns
returns c j h =
    let x = slice_index c.args.x j in
    rw (c.xor.ensures j h, c.rotate_right-2.ensures j h, c.xor-pair.ensures j h, c.rotate_right.ensures j h, c.shift_right.ensures j h)
    (ap (λ (y : ℕ). bit_xor y (x / 2 ^ 10)) (rotated_two 32 x 17 2 (omega arith) (lane_fits c.args.x j c.fits-x h)))
