use Rattle.std.proofs.Common.{◌∙◌, ℕ, ap}
use Rattle.std.specs.Prelude.{bit_xor}
use Rattle.gf_cantor.specs.Field.{product}
use Rattle.lch_fft.proofs.ColumnLemmas.{label_of_zeros}
use Rattle.leopard_code.specs.Locators.{label_of_power}
use Rattle.leopard_code.proofs.scaling.multiply.Goals as goal

-- a multiple that is added to zeros
pub returns : goal.returns
returns g c = λ b h.
    let r = g.M.Factor.reading in
    c.add_power.ensures b h
    ∙ ap (λ (y : ℕ). bit_xor y (product r.field (label_of_power r.field c.args.exponent) (r.label_at c.args.share.now.0 b)))
    (label_of_zeros r g.met.M.Factor.laws b h)
