use Rattle.std.proofs.Common.{◌<◌, sym, ap, ◌∙◌}
use Rattle.gf_cantor.specs.Field.{label, word_field}
use Rattle.gf_cantor.proofs.Product.{label-element}
use Rattle.gf_cantor.proofs.Computed.{word_labels}
use Rattle.lch_fft.specs.Readings.{word_reading}
use Rattle.lch_fft.proofs.factor.WordFactorFactor.exponent.Goals as goal

-- a label has so many bits
pub overflow_cast-of : goal.overflow_cast-of
unfolding word_reading word_field
overflow_cast-of c = let low : c.args.of < 65536 = c.requires.below in record { fits = low }

-- the element of the label is that power
pub returns-clause-power : goal.returns-clause-power
unfolding word_reading word_field
returns-clause-power c = ap (label word_field) (sym c.word_log.ensures.power) ∙ label-element word_field word_labels c.args.of c.requires.below
