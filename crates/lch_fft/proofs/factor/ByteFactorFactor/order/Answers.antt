use Rattle.std.proofs.Common.{refl}
use Rattle.gf_cantor.specs.Field.{byte_field}
use Rattle.lch_fft.specs.Readings.{byte_reading}
use Rattle.lch_fft.proofs.factor.ByteFactorFactor.order.Goals as goal

-- by computing
pub returns-clause-value : goal.returns-clause-value
unfolding byte_reading byte_field
returns-clause-value c = refl
