use Rattle.std.proofs.Common.{rules, ◌∙◌, sym, arith}
use Rattle.lch_fft.proofs.ColumnLemmas.{column-at}
use Rattle.leopard_code.proofs.scaling.divide_missing.Goals as goal

-- all missing shares are divided, and so is each column
pub returns : goal.returns
returns g c = λ b pos y h l hy u e.
    let r = g.M.Factor.reading in
    let laws = g.met.M.Factor.laws in
    column-at r laws b c.loop-pos.all pos (omega arith)
    ∙ c.loop-pos.invariant.done pos b y (omega arith) h hy u (sym (column-at r laws b c.args.all.now pos l) ∙ e)

-- a known position is left, and a missing one divided
pub loop-pos-preserved : goal.loop-pos-preserved
loop-pos-preserved g c = search rules
