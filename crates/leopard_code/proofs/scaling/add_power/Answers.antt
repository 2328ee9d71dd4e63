use Rattle.std.proofs.Common.{◌∙◌, ℕ, ap}
use Rattle.std.specs.Prelude.{bit_xor}
use Rattle.gf_cantor.specs.Field.{product}
use Rattle.leopard_code.proofs.scaling.add_power.Goals as goal

-- the factor is the label of the power
pub returns : goal.returns
returns g c = λ b h.
    let r = g.M.Factor.reading in
    c.add_multiple.ensures b h
    ∙ ap (λ (y : ℕ). bit_xor (r.label_at c.args.acc.now.0 b) (product r.field y (r.label_at c.args.share.now.0 b))) c.of_power-factor.ensures
