use Rattle.std.proofs.Common.{◌/◌, ◌^◌, arith}
use Rattle.multi_sha256.proofs.LaneLemmas.{splat_at}
use Rattle.multi_sha256.proofs.lanes.shift_right.Goals as goal

pub returns : goal.returns
returns c j h = splat_at (λ a n. a / 2 ^ n) c.args.x c.args.by j (omega arith) h
