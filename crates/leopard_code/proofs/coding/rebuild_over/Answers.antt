use Rattle.std.proofs.Common.{◌≡◌, ◌*◌, ◌<◌, ℕ, length, get_or, sym, subst, arith, IsTrue}
use Rattle.lch_fft.specs.Readings.{LabelReading}
use Rattle.lch_fft.specs.Transforms.{is_count}
use Rattle.leopard_code.specs.Codewords.{are_positions, IsCodewordOver}
use Rattle.leopard_code.specs.Locators.{missing_from, label_of_power, apart_from}
use Rattle.leopard_code.proofs.CodeLemmas.{code_width-le, double_code_count, code_fits}
use Rattle.leopard_code.proofs.RebuildLemmas.{rebuilt_codeword}
use Rattle.leopard_code.proofs.coding.rebuild_over.Goals as goal

-- a codeword has no more than 1,024 positions, and a label stands for each
pub locate-requires-clause-count : goal.locate-requires-clause-count
locate-requires-clause-count g c = omega (arith, code_width-le c.args.k c.requires.width, c.requires.exponents)

pub locate-requires-clause-fits : goal.locate-requires-clause-fits
locate-requires-clause-fits g c = omega (arith, code_fits g.M.Factor.reading c.args.k c.requires.width c.requires.reading, c.requires.exponents)

-- the positions are as many as the width says
pub add_multiples-requires-clause-positions : goal.add_multiples-requires-clause-positions
add_multiples-requires-clause-positions g c = subst (λ (n : ℕ). IsTrue (are_positions n c.args.known.now)) (sym c.requires.known) c.requires.positions

pub place-requires-clause-positions : goal.place-requires-clause-positions
place-requires-clause-positions g c = subst (λ (n : ℕ). IsTrue (are_positions n c.args.known.now)) (sym c.requires.known) c.requires.positions

-- twice a width is the length of a transform
pub differentiate-requires-clause-count : goal.differentiate-requires-clause-count
differentiate-requires-clause-count g c =
    let long : length c.add_multiples.new.all ≡ 2 * c.args.k = omega arith in
    subst (λ (n : ℕ). IsTrue (is_count n)) (sym long) (double_code_count c.args.k c.requires.width)

pub differentiate-requires-clause-fits : goal.differentiate-requires-clause-fits
differentiate-requires-clause-fits g c =
    let long : length c.add_multiples.new.all ≡ 2 * c.args.k = omega arith in
    omega (arith, code_fits g.M.Factor.reading c.args.k c.requires.width c.requires.reading)

-- the products with the locator, their derivative, and the quotients at the missing positions
pub returns-clause-codeword : goal.returns-clause-codeword
returns-clause-codeword g c =
    let r = g.M.Factor.reading in
    let k : ℕ = c.args.k in
    let value : ℕ → ℕ = λ x. label_of_power r.field (get_or c.locate.new.exponents x 0) in
    subst (λ (s : LabelReading). IsCodewordOver s c.args.k c.place.new.all) c.requires.reading
    (rebuilt_codeword r g.met.M.Factor.laws k c.args.known.now c.args.shares.now value c.clear_all.new.shares
    c.add_multiples.new.all c.differentiate.new.shares c.divide_missing.new.all c.place.new.all
    (record {
      code = record { count = double_code_count c.args.k c.requires.width; fits = code_fits r c.args.k c.requires.width c.requires.reading };
      count = c.requires.known;
      positions = c.requires.positions;
      as_many = c.requires.shares;
      bytes = c.shares_law.ensures;
      located = subst (λ (n : ℕ). (x : ℕ) → x < n → label_of_power r.field (get_or c.locate.new.exponents x 0) ≡ apart_from r.field (missing_from 0 n c.args.known.now) x)
          c.requires.exponents c.locate.ensures;
      blank_bytes = λ b i hb hi. c.clear_all.ensures b i hb (omega arith);
      products_known = c.add_multiples.ensures.known;
      products_others = λ b pos hb h u. c.add_multiples.ensures.others b pos hb (omega arith) u;
      long = omega arith;
      derivatives = c.differentiate.ensures;
      quotients = λ b pos y hb h hy u e. c.divide_missing.ensures b pos y hb (omega arith) hy u e;
      known_again = c.place.ensures.known;
      others_again = c.place.ensures.others;
      all_bytes = c.shares_law-2.ensures;
      whole = omega arith;
    }))
