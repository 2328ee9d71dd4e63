use Rattle.std.proofs.Common.{◌∙◌, ap₂}
use Rattle.gf_cantor.specs.Field.{product, word_field}
use Rattle.gf_cantor.proofs.WordPowers.{both_powers}
use Rattle.gf_cantor.proofs.word_powers.word_exp.Goals as goal

-- the exponent is the sum of both parts
pub returns : goal.returns
returns c =
    c.times.ensures
    ∙ ap₂ (product word_field) (c.new.ensures ∙ c.high_power-high.ensures) c.low_power.ensures
    ∙ both_powers c.args.i
