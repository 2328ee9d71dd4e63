use Rattle.std.proofs.Common.{refl, length}
use Rattle.lch_fft.proofs.EvaluateLemmas.{inverse_evaluates, only_coefficients}
use Rattle.lch_fft.proofs.transforms.inverse.Goals as goal

-- the inverse by halves finds coefficients that have the values
pub returns-clause-evaluates : goal.returns-clause-evaluates
returns-clause-evaluates g c =
    inverse_evaluates g.M.Factor.reading g.met.M.Factor.laws c.gather_halves.new.shares c.args.shares.now c.args.shift (length c.args.shares.now)
    c.requires.count c.requires.block c.requires.fits c.gather_halves.auto.shares refl c.shares_law-2.ensures c.gather_halves.ensures

-- and no others have them
pub returns-clause-undoes : goal.returns-clause-undoes
returns-clause-undoes g c = λ coefficients shares given.
    only_coefficients g.M.Factor.reading g.met.M.Factor.laws c.gather_halves.new.shares coefficients c.args.shares.now c.args.shift (length c.args.shares.now)
    c.requires.count c.requires.block c.requires.fits refl c.shares_law-2.ensures shares (returns-clause-evaluates g c) given
