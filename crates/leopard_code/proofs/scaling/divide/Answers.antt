use Rattle.leopard_code.proofs.PowerLemmas.{divided}
use Rattle.leopard_code.proofs.scaling.divide.Goals as goal

-- a whole turn less the exponent takes the power back
pub returns : goal.returns
returns g c = λ b y hb hy e.
    let r = g.M.Factor.reading in
    divided r.field g.met.M.Factor.laws.laws g.met.M.Factor.powers c.order-turn.result c.args.exponent y
    (r.label_at c.multiply.new.share.0 b) (r.label_at c.args.share.now.0 b) c.order-turn.ensures.value hy (c.multiply.ensures b hb) e
