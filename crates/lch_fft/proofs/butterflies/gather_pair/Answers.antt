use Rattle.std.proofs.Common.{◌∙◌}
use Rattle.std.proofs.lemmas.Nat.{xor_comm}
use Rattle.lch_fft.proofs.butterflies.gather_pair.Goals as goal

-- the high share was the second summand
pub returns-clause-high : goal.returns-clause-high
returns-clause-high g c = λ b h.
    let r = g.M.Factor.reading in
    c.add_row.ensures b h ∙ xor_comm (r.label_at c.args.high.now.0 b) (r.label_at c.args.low.now.0 b)
