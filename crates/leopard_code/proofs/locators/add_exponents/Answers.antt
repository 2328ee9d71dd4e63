use Rattle.std.proofs.Common.{◌≡◌, ◌≢◌, ◌∙◌, ℕ, ◌+◌, List, ap, arith, length, get_or, get_or-set_other, get_or-set_same, below_more}
use Rattle.leopard_code.specs.Locators.{label_of_power}
use Rattle.leopard_code.proofs.PowerLemmas.{positions_differ, exponent_added, exponent_kept, products_more}
use Rattle.leopard_code.proofs.locators.add_exponents.Goals as goal
use Rattle.leopard_code.proofs.locators.add_exponents.Goals.{then-x-pos, else-x-pos}

-- the exponent at x gains one where x is another place, and the difference counts as 1 where it isn't
pub loop-x-preserved : goal.loop-x-preserved
loop-x-preserved g c =
    let f = g.M.Factor.reading.field in
    let laws = g.met.M.Factor.laws.laws in
    let powers = g.met.M.Factor.powers in
    let old : List ℕ = c.args.exponents.now in
    elim c.if-x-pos.branch [
      | then-x-pos w ↦
          let kept : (y : ℕ) → y ≢ c.loop-x.x → get_or c.if-x-pos.exponents y 0 ≡ get_or c.loop-x.exponents y 0 =
          λ y ne. ap (λ (l : List ℕ). get_or l y 0) w.exponents-is ∙ get_or-set_other c.loop-x.exponents c.loop-x.x y _ 0 ne in
          let here : get_or c.if-x-pos.exponents c.loop-x.x 0 ≡ get_or c.args.exponents.now c.loop-x.x 0 + w.exponent.result =
          ap (λ (l : List ℕ). get_or l c.loop-x.x 0) w.exponents-is ∙ get_or-set_same c.loop-x.exponents c.loop-x.x _ 0 (omega arith)
          ∙ ap (λ (s : ℕ). s + w.exponent.result) (c.loop-x.invariant.left c.loop-x.x (omega arith)) in
          record {
            done = products_more f laws powers c.loop-x.exponents c.if-x-pos.exponents old c.loop-x.x c.args.pos kept
                (ap (label_of_power f) here
                ∙ exponent_added f laws powers c.loop-x.x c.args.pos (get_or old c.loop-x.x 0) w.exponent.result w.if-x-pos.true w.exponent.ensures.power)
                c.loop-x.invariant.done;
            bound = below_more _ _ (λ y h. omega (arith, kept y (omega arith), c.loop-x.invariant.bound y h))
                (omega (arith, here, w.exponent.ensures.bound, c.requires.room c.loop-x.x (omega arith)));
            left = λ y h. kept y (omega arith) ∙ c.loop-x.invariant.left y (omega arith);
          }
      | else-x-pos w ↦
          let kept : (y : ℕ) → get_or c.if-x-pos.exponents y 0 ≡ get_or c.loop-x.exponents y 0 =
          λ y. ap (λ (l : List ℕ). get_or l y 0) w.exponents-is in
          let here : get_or c.if-x-pos.exponents c.loop-x.x 0 ≡ get_or c.args.exponents.now c.loop-x.x 0 =
          kept c.loop-x.x ∙ c.loop-x.invariant.left c.loop-x.x (omega arith) in
          record {
            done = products_more f laws powers c.loop-x.exponents c.if-x-pos.exponents old c.loop-x.x c.args.pos (λ y ne. kept y)
                (ap (label_of_power f) here
                ∙ exponent_kept f laws powers c.loop-x.x c.args.pos (get_or old c.loop-x.x 0) w.if-x-pos.false)
                c.loop-x.invariant.done;
            bound = below_more _ _ (λ y h. omega (arith, kept y, c.loop-x.invariant.bound y h))
                (omega (arith, here, c.requires.room c.loop-x.x (omega arith)));
            left = λ y h. kept y ∙ c.loop-x.invariant.left y (omega arith);
          }
    ]

-- the difference of two positions is a label but 0
pub exponent-requires-clause-below : goal.exponent-requires-clause-below
exponent-requires-clause-below g c =
    let f = g.M.Factor.reading.field in
    (positions_differ f c.loop-x.x c.args.pos (length c.args.exponents.now) c.if-x-pos.true (omega arith) c.requires.pos c.requires.fits c.requires.count).below

pub exponent-requires-clause-position : goal.exponent-requires-clause-position
exponent-requires-clause-position g c =
    let f = g.M.Factor.reading.field in
    (positions_differ f c.loop-x.x c.args.pos (length c.args.exponents.now) c.if-x-pos.true (omega arith) c.requires.pos c.requires.fits c.requires.count).position
