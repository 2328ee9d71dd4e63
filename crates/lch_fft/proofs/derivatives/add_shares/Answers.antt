use Rattle.std.proofs.Common.{arith}
use Rattle.lch_fft.proofs.StageLemmas.{column_sum}
use Rattle.lch_fft.proofs.derivatives.add_shares.Goals as goal

-- all shares are done, and a column is a sum byte by byte
pub returns : goal.returns
returns g c = λ b h.
    column_sum g.M.Factor.reading g.met.M.Factor.laws b c.loop-i.low c.args.low.now c.args.high.now (omega arith) (omega arith)
    (λ k l. c.loop-i.invariant.done k b (omega arith) h)
