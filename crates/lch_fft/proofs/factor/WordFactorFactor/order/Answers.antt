use Rattle.std.proofs.Common.{refl}
use Rattle.gf_cantor.specs.Field.{word_field}
use Rattle.lch_fft.specs.Readings.{word_reading}
use Rattle.lch_fft.proofs.factor.WordFactorFactor.order.Goals as goal

-- by computing
pub returns-clause-value : goal.returns-clause-value
unfolding word_reading word_field
returns-clause-value c = refl
