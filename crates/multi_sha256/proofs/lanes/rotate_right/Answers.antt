use Rattle.std.proofs.Common.{◌≡◌, ◌%◌, ◌-◌, refl, arith}
use Rattle.multi_sha256.proofs.lanes.rotate_right.Goals as goal

pub returns : goal.returns
returns c j h =
    let right : c.args.by % 32 ≡ c.args.by = omega arith in
    let left : (32 - c.args.by) % 32 ≡ 32 - c.args.by = omega arith in
    rw (c.or.ensures j h, c.shift_right.ensures j h, c.shift_left.ensures j h, right, left) refl
