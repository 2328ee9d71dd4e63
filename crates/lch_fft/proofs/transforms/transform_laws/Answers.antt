use Rattle.std.proofs.Common.{refl, length}
use Rattle.lch_fft.proofs.SubspaceLemmas.{subspace_shifts}
use Rattle.lch_fft.proofs.EvaluateLemmas.{only_values, only_coefficients}
use Rattle.lch_fft.proofs.transforms.transform_laws.Goals as goal

-- by induction on the place, since a square and its label sum to the half
pub returns-clause-shifts : goal.returns-clause-shifts
returns-clause-shifts g c =
    let laws = g.met.M.Factor.laws in
    subspace_shifts g.M.Factor.reading.field laws.laws

-- the values are sums
pub returns-clause-only_values : goal.returns-clause-only_values
returns-clause-only_values g c = λ s ds vs others. only_values g.M.Factor.reading g.met.M.Factor.laws ds vs others s

-- the inverse by halves finds them
pub returns-clause-only_coefficients : goal.returns-clause-only_coefficients
returns-clause-only_coefficients g c = λ s ds others vs h e f. only_coefficients g.M.Factor.reading g.met.M.Factor.laws ds others vs s (length vs) h e f refl

-- each factor has them
pub returns-clause-laws : goal.returns-clause-laws
returns-clause-laws g c = g.met.M.Factor.laws
