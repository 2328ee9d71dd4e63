use Rattle.std.proofs.Common.{◌<◌}
use Rattle.gf_cantor.specs.Field.{word_field}
use Rattle.lch_fft.specs.Readings.{word_reading}
use Rattle.lch_fft.proofs.factor.WordFactorFactor.new.Goals as goal

-- a label has so many bits
pub overflow_cast-by : goal.overflow_cast-by
unfolding word_reading word_field
overflow_cast-by c = let low : c.args.by < 65536 = c.requires in record { fits = low }
