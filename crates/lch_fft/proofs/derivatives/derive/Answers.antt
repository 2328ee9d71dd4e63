use Rattle.lch_fft.proofs.DeriveLemmas.{derived}
use Rattle.lch_fft.proofs.derivatives.derive.Goals as goal

-- the derivative by halves has the sums of the raised entries
pub returns : goal.returns
returns g c = derived g.M.Factor.reading g.met.M.Factor.laws c.args.shares.now c.derive_halves.new.shares c.requires c.derive_halves.auto.shares c.derive_halves.ensures
