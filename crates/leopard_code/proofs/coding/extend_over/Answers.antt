use Rattle.std.proofs.Common.{◌≡◌, ◌∙◌, ◌++◌, ℕ, List, length, sym, subst, arith, IsTrue}
use Rattle.namespace_id.specs.declared.shares.Share.{Share}
use Rattle.lch_fft.specs.Readings.{LabelReading}
use Rattle.lch_fft.specs.Transforms.{is_count, Evaluates}
use Rattle.leopard_code.specs.Codewords.{IsCodewordOver}
use Rattle.leopard_code.proofs.CodeLemmas.{code_count, code_fits}
use Rattle.leopard_code.proofs.TransformLemmas.{codeword_by_transforms}
use Rattle.leopard_code.proofs.coding.extend_over.Goals as goal

-- a width is the length of a transform, and twice as many points are labels
pub inverse-requires-clause-count : goal.inverse-requires-clause-count
inverse-requires-clause-count g c =
    subst (λ (n : ℕ). IsTrue (is_count n)) (sym (c.copy_from_slice.ensures.len ∙ c.requires.recovery)) (code_count c.args.k c.requires.width)

pub inverse-requires-clause-fits : goal.inverse-requires-clause-fits
inverse-requires-clause-fits g c = omega (arith, code_fits g.M.Factor.reading c.args.k c.requires.width c.requires.reading, c.requires.recovery)

pub forward-requires-clause-count : goal.forward-requires-clause-count
forward-requires-clause-count g c =
    let long : length c.inverse.new.shares ≡ c.args.k = omega arith in
    subst (λ (n : ℕ). IsTrue (is_count n)) (sym long) (code_count c.args.k c.requires.width)

pub forward-requires-clause-fits : goal.forward-requires-clause-fits
forward-requires-clause-fits g c = omega (arith, code_fits g.M.Factor.reading c.args.k c.requires.width c.requires.reading, c.requires.recovery)

-- the coefficients that take the originals give the recovery shares
pub returns : goal.returns
returns g c =
    let r = g.M.Factor.reading in
    let back : Evaluates g.M.Factor.reading c.args.k c.inverse.new.shares c.args.originals.now =
    subst (λ (l : List Share). Evaluates g.M.Factor.reading c.args.k c.inverse.new.shares l) c.copy_from_slice.ensures.after c.inverse.ensures.evaluates in
    subst (λ (s : LabelReading). IsCodewordOver s c.args.k (c.args.originals.now ++ c.forward.new.shares)) c.requires.reading
    (codeword_by_transforms r g.met.M.Factor.laws c.args.k c.args.originals.now c.inverse.new.shares c.forward.new.shares
    (code_count c.args.k c.requires.width) (code_fits r c.args.k c.requires.width c.requires.reading)
    c.requires.originals c.shares_law.ensures c.shares_law-2.ensures c.shares_law-3.ensures back c.forward.ensures)
