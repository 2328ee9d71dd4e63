use Rattle.lch_fft.proofs.ColumnLemmas.{label_of_zeros}
use Rattle.leopard_code.proofs.places.clear.Goals as goal

-- each label of a share of zeros is 0
pub returns : goal.returns
returns g c = label_of_zeros g.M.Factor.reading g.met.M.Factor.laws
