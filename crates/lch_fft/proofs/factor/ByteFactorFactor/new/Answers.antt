use Rattle.std.proofs.Common.{◌<◌}
use Rattle.gf_cantor.specs.Field.{byte_field}
use Rattle.lch_fft.specs.Readings.{byte_reading}
use Rattle.lch_fft.proofs.factor.ByteFactorFactor.new.Goals as goal

-- a label has so many bits
pub overflow_cast-by : goal.overflow_cast-by
unfolding byte_reading byte_field
overflow_cast-by c = let low : c.args.by < 256 = c.requires in record { fits = low }
