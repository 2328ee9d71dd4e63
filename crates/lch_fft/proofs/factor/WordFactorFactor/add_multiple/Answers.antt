use Rattle.lch_fft.specs.Readings.{word_reading}
use Rattle.lch_fft.proofs.factor.WordFactorFactor.add_multiple.Goals as goal

-- as the factor does
pub returns : goal.returns
unfolding word_reading
returns c = c.add_multiple.ensures
