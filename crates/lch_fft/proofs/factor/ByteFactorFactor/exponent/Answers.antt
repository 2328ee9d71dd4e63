use Rattle.std.proofs.Common.{◌<◌, sym, ap, ◌∙◌}
use Rattle.gf_cantor.specs.Field.{label, byte_field}
use Rattle.gf_cantor.proofs.Product.{label-element}
use Rattle.gf_cantor.proofs.Computed.{byte_labels}
use Rattle.lch_fft.specs.Readings.{byte_reading}
use Rattle.lch_fft.proofs.factor.ByteFactorFactor.exponent.Goals as goal

-- a label has so many bits
pub overflow_cast-of : goal.overflow_cast-of
unfolding byte_reading byte_field
overflow_cast-of c = let low : c.args.of < 256 = c.requires.below in record { fits = low }

-- the element of the label is that power
pub returns-clause-power : goal.returns-clause-power
unfolding byte_reading byte_field
returns-clause-power c = ap (label byte_field) (sym c.log.ensures.power) ∙ label-element byte_field byte_labels c.args.of c.requires.below
