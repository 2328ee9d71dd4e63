use Rattle.std.proofs.Common.{rules, ◌∙◌, arith}
use Rattle.lch_fft.proofs.ColumnLemmas.{column-at}
use Rattle.leopard_code.proofs.places.clear_all.Goals as goal

-- all are, and so is each column
pub returns : goal.returns
returns g c = λ b i h l.
    column-at g.M.Factor.reading g.met.M.Factor.laws b c.loop-i.shares i (omega arith) ∙ c.loop-i.invariant i b (omega arith) h

-- the share at i is cleared, and no other changes
pub loop-i-preserved : goal.loop-i-preserved
loop-i-preserved g c = search rules
