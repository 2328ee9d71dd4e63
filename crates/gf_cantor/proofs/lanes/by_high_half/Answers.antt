use Rattle.std.proofs.Common.{◌+◌, get_or}
use Rattle.gf_cantor.proofs.LaneLemmas.{high_halves, high_half-lt, look_up_allowed, looked_up}
use Rattle.gf_cantor.proofs.lanes.by_high_half.Goals as goal

-- a byte is below 256
pub swizzle : goal.swizzle
swizzle c = look_up_allowed _ _ (high_halves c.args.lanes c.fits-lanes.0) (high_half-lt c.args.lanes c.fits-lanes.0 c.fits-lanes.1)

pub returns : goal.returns
returns c =
    looked_up _ _ (high_halves c.args.lanes c.fits-lanes.0) (high_half-lt c.args.lanes c.fits-lanes.0 c.fits-lanes.1)
    c.twice.result (λ n. get_or c.args.tables.now (c.args.at + n) 0) c.twice.ensures
