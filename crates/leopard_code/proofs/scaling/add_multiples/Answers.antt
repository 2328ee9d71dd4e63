use Rattle.std.proofs.Common.{◌≢◌, ◌∙◌, ◌<◌, ℕ, sym, ap, ap₂, arith, length, get_or, below_more}
use Rattle.std.specs.Prelude.{bit_xor}
use Rattle.gf_cantor.specs.Field.{product}
use Rattle.namespace_id.specs.declared.shares.Share.{Share}
use Rattle.lch_fft.proofs.ColumnLemmas.{byte, column-at}
use Rattle.leopard_code.specs.Locators.{label_of_power}
use Rattle.leopard_code.proofs.LocateLemmas.{byte-set_same, byte-set_other}
use Rattle.leopard_code.proofs.PositionLemmas.{position-lt}
use Rattle.leopard_code.proofs.StandingLemmas.{positions_apart}
use Rattle.leopard_code.proofs.scaling.add_multiples.Goals as goal

-- the multiple of the share at i is added at its position, which is none of the earlier ones
pub loop-i-preserved : goal.loop-i-preserved
loop-i-preserved g c =
    let r = g.M.Factor.reading in
    let k : ℕ = length c.args.known.now in
    let i : ℕ = c.loop-i.i in
    let pos : ℕ = get_or c.args.known.now c.loop-i.i 0 in
    let new : Share = c.add_power.new.acc in
    let within : get_or c.args.known.now c.loop-i.i 0 < length c.loop-i.all =
    omega (arith, position-lt k c.args.known.now i (omega arith) c.requires.positions) in
    let apart : (j : ℕ) → j < c.loop-i.i → get_or c.args.known.now j 0 ≢ get_or c.args.known.now c.loop-i.i 0 =
    λ j h. positions_apart k c.args.known.now j i c.requires.positions h (omega arith) in
    record {
      known = λ b j hb. below_more _ _
          (λ j h. byte-set_other r c.loop-i.all pos (get_or c.args.known.now j 0) b new (apart j h)
          ∙ c.loop-i.invariant.known b j hb h)
          (byte-set_same r c.loop-i.all pos b new within
          ∙ c.add_power.ensures b hb
          ∙ ap (λ (x : ℕ). bit_xor x (product r.field (label_of_power r.field (get_or c.args.exponents.now pos 0)) (byte r c.args.shares.now i b)))
          (c.loop-i.invariant.others b pos hb apart))
          j;
      others = λ b p hb u.
          byte-set_other r c.loop-i.all pos p b new (λ e. u i (omega arith) (sym e))
          ∙ c.loop-i.invariant.others b p hb (λ j h. u j (omega arith));
    }

-- all multiples are added, and so in each column
pub returns-clause-known : goal.returns-clause-known
returns-clause-known g c = λ b i hb h.
    let r = g.M.Factor.reading in
    let laws = g.met.M.Factor.laws in
    let pos : ℕ = get_or c.args.known.now i 0 in
    let within : get_or c.args.known.now i 0 < length c.args.all.now =
    omega (arith, position-lt (length c.args.known.now) c.args.known.now i h c.requires.positions) in
    column-at r laws b c.loop-i.all pos (omega arith)
    ∙ c.loop-i.invariant.known b i hb (omega arith)
    ∙ ap₂ (λ (x y : ℕ). bit_xor x (product r.field (label_of_power r.field (get_or c.args.exponents.now pos 0)) y))
    (sym (column-at r laws b c.args.all.now pos within)) (sym (column-at r laws b c.args.shares.now i (omega arith)))

-- and no other position has changed
pub returns-clause-others : goal.returns-clause-others
returns-clause-others g c = λ b pos hb h u.
    let r = g.M.Factor.reading in
    let laws = g.met.M.Factor.laws in
    column-at r laws b c.loop-i.all pos (omega arith)
    ∙ c.loop-i.invariant.others b pos hb (λ j l. u j (omega arith))
    ∙ sym (column-at r laws b c.args.all.now pos h)
