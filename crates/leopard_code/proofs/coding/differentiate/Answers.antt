use Rattle.leopard_code.proofs.DerivativeLemmas.{derivatives}
use Rattle.leopard_code.proofs.coding.differentiate.Goals as goal

-- from values to coefficients, to those of the derivative, to its values
pub returns : goal.returns
returns g c =
    derivatives g.M.Factor.reading g.met.M.Factor.laws c.args.shares.now c.inverse.new.shares c.derive.new.shares c.forward.new.shares c.requires.count c.requires.fits
    c.shares_law.ensures c.inverse.ensures.evaluates c.derive.ensures c.forward.ensures
