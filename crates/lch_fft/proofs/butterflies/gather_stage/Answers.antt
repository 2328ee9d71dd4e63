use Rattle.std.proofs.Common.{arith}
use Rattle.lch_fft.proofs.StageLemmas.{column_sum, column_sum_multiple}
use Rattle.lch_fft.proofs.butterflies.gather_stage.Goals as goal

-- all pairs are done, and a column is a sum label by label
pub returns-clause-high : goal.returns-clause-high
returns-clause-high g c = λ b h.
    column_sum g.M.Factor.reading g.met.M.Factor.laws b c.loop-i.high c.args.low.now c.args.high.now (omega arith) (omega arith)
    (λ k l. (c.loop-i.invariant.done k b (omega arith) h).0)

-- also where one summand is a multiple
pub returns-clause-low : goal.returns-clause-low
returns-clause-low g c = λ b h.
    column_sum_multiple g.M.Factor.reading g.met.M.Factor.laws b c.args.by c.loop-i.low c.args.low.now c.loop-i.high (omega arith) (omega arith)
    (λ k l. (c.loop-i.invariant.done k b (omega arith) h).1)
