use Rattle.std.proofs.Common.{◌∙◌}
use Rattle.gf_cantor.specs.Field.{word_field}
use Rattle.gf_cantor.proofs.ExponentLaws.{word_power_laws}
use Rattle.lch_fft.specs.Readings.{word_reading}
use Rattle.lch_fft.proofs.factor.WordFactorFactor.of_power.Goals as goal

-- exponents count modulo one less than the number of labels
pub returns : goal.returns
unfolding word_reading word_field
returns c = c.new.ensures ∙ c.word_exp.ensures ∙ word_power_laws.order c.args.exponent
