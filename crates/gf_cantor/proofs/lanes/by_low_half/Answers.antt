use Rattle.std.proofs.Common.{◌+◌, get_or, arith}
use Rattle.gf_cantor.proofs.LaneLemmas.{low_halves, look_up_allowed, looked_up}
use Rattle.gf_cantor.proofs.lanes.by_low_half.Goals as goal

-- a remainder by 16 is below 16
pub swizzle : goal.swizzle
swizzle c = look_up_allowed _ _ (low_halves c.args.lanes c.fits-lanes.0) (λ k l. omega arith)

pub returns : goal.returns
returns c = looked_up _ _ (low_halves c.args.lanes c.fits-lanes.0) (λ k l. omega arith) c.twice.result (λ n. get_or c.args.tables.now (c.args.at + n) 0) c.twice.ensures
