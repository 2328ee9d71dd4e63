use Rattle.std.proofs.Common.{◌∙◌}
use Rattle.gf_cantor.specs.Field.{byte_field}
use Rattle.gf_cantor.proofs.ExponentLaws.{byte_power_laws}
use Rattle.lch_fft.specs.Readings.{byte_reading}
use Rattle.lch_fft.proofs.factor.ByteFactorFactor.of_power.Goals as goal

-- exponents count modulo one less than the number of labels
pub returns : goal.returns
unfolding byte_reading byte_field
returns c = c.new.ensures ∙ c.exp.ensures ∙ byte_power_laws.order c.args.exponent
