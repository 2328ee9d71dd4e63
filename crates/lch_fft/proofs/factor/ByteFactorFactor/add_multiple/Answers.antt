use Rattle.lch_fft.specs.Readings.{byte_reading}
use Rattle.lch_fft.proofs.factor.ByteFactorFactor.add_multiple.Goals as goal

-- as the factor does
pub returns : goal.returns
unfolding byte_reading
returns c = c.add_multiple.ensures
