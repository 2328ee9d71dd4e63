use Rattle.std.proofs.Common.{refl, length}
use Rattle.lch_fft.proofs.EvaluateLemmas.{evaluates}
use Rattle.lch_fft.proofs.transforms.forward.Goals as goal

-- the transform by halves evaluates
pub returns : goal.returns
returns g c =
    evaluates g.M.Factor.reading g.met.M.Factor.laws c.args.shares.now c.spread_halves.new.shares c.args.shift (length c.args.shares.now)
    c.requires.count c.requires.block c.requires.fits refl c.spread_halves.auto.shares c.shares_law.ensures c.spread_halves.ensures
