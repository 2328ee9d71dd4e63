use Rattle.std.proofs.Common.{◌∙◌, ℕ, List, suc, ap, arith, get_or, length}
use Rattle.leopard_code.specs.Locators.{label_of_power}
use Rattle.leopard_code.proofs.LocateLemmas.{located_none, located_on, located_past, located_all}
use Rattle.leopard_code.proofs.PowerLemmas.{label_of_power-lt, no_exponent}
use Rattle.leopard_code.proofs.locators.locate.Goals as goal
use Rattle.leopard_code.proofs.locators.locate.Goals.{then-next-known+then-known-next, else-next-known, else-next-known-via-then-next-known+else-known-next, else-next-known-via-else-next-known}

-- all exponents are 0, and the label of the power 0 is 1
pub loop-pos-init : goal.loop-pos-init
loop-pos-init g c =
    let f = g.M.Factor.reading.field in
    let laws = g.met.M.Factor.laws.laws in
    record {
      parts = λ left x e h.
          located_none f laws c.args.known.now (length c.args.exponents.now) left x (label_of_power f (get_or c.clear_exponents.new.exponents x 0)) e
          (no_exponent f laws g.met.M.Factor.powers (get_or c.clear_exponents.new.exponents x 0) (c.clear_exponents.ensures x h));
      bound = λ x h. omega (arith, c.clear_exponents.ensures x h);
    }

-- a known position changes none of them, and a missing one multiplies what they stand for
pub loop-pos-preserved : goal.loop-pos-preserved
loop-pos-preserved g c =
    let f = g.M.Factor.reading.field in
    let laws = g.met.M.Factor.laws.laws in
    record {
      parts = λ left x e h. elim c.if-next-known.branch [
        | then-next-known+then-known-next w ↦
            located_on f laws c.args.known.now c.loop-pos.pos c.loop-pos.next c.if-next-known.next left x
            (label_of_power f (get_or c.loop-pos.exponents x 0)) (label_of_power f (get_or c.if-next-known.exponents x 0)) _
            w.if-next-known.true w.if-known-next.true w.next-is (ap (λ (l : List ℕ). label_of_power f (get_or l x 0)) w.exponents-is)
            (c.loop-pos.invariant.parts (suc left) x (omega arith) h)
        | else-next-known w ↦
            located_past f laws c.args.known.now c.loop-pos.pos c.loop-pos.next c.if-next-known.next left x
            (label_of_power f (get_or c.loop-pos.exponents x 0)) (label_of_power f (get_or c.if-next-known.exponents x 0)) _
            (λ lt q. elim w.else-next-known.branch [
              | else-next-known-via-then-next-known+else-known-next v ↦ v.if-known-next.false q
              | else-next-known-via-else-next-known v ↦ absurd (omega arith)
            ])
            w.next-is (ap (λ (l : List ℕ). label_of_power f (get_or l x 0)) w.exponents-is ∙ w.add_exponents.ensures.products x (omega arith))
            (c.loop-pos.invariant.parts (suc left) x (omega arith) h)
      ];
      bound = λ x h. elim c.if-next-known.branch [
        | then-next-known+then-known-next w ↦
            omega (arith, ap (λ (l : List ℕ). get_or l x 0) w.exponents-is, c.loop-pos.invariant.bound x h)
        | else-next-known w ↦
            omega (arith, ap (λ (l : List ℕ). get_or l x 0) w.exponents-is, w.add_exponents.ensures.bound x (omega arith))
      ];
    }

-- no position is left
pub returns : goal.returns
returns g c = λ x h.
    let f = g.M.Factor.reading.field in
    let laws = g.met.M.Factor.laws.laws in
    located_all f laws c.args.known.now c.loop-pos.pos c.loop-pos.next x (label_of_power f (get_or c.loop-pos.exponents x 0)) _
    (label_of_power-lt f laws g.met.M.Factor.powers (get_or c.loop-pos.exponents x 0)) (c.loop-pos.invariant.parts 0 x (omega arith) h)
