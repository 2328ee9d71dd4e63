use Rattle.label_polynomial.proofs.Roots.{one_polynomial}
use Rattle.label_polynomial.proofs.Through.{through}
use Rattle.label_polynomial.proofs.interpolation_laws.Goals as goal

pub returns-clause-through : goal.returns-clause-through
returns-clause-through c = through

pub returns-clause-one : goal.returns-clause-one
returns-clause-one c = one_polynomial
