use Rattle.std.proofs.Common.{◌≡◌, ◌∙◌, ℕ, ◌+◌, ◌-◌, List, true, false, length, length-drop, sym, ap, arith}
use Rattle.std.specs.List.{list_any}
use Rattle.std.proofs.lemmas.Bool.{lt-ltb, le-ltb}
use Rattle.sampling.specs.Draws.{draw_limit}
use Rattle.da_script.specs.Scripts.{draws_at}
use Rattle.da_script.specs.Parts.{is_wide}
use Rattle.da_script.proofs.DrawLemmas.{draw_in, draws_next, draws_none, any_here, any_later}
use Rattle.da_script.proofs.nodes.has_wide.Goals as goal

pub draw_count-requires : goal.draw_count-requires
draw_count-requires c = omega (arith, c.loop.invariant.size, c.loop-test.true)

-- this one doesn't
pub loop-preserved : goal.loop-preserved
loop-preserved c =
    let rest = c.loop.rest.now in
    let next = draws_next c.args.count c.loop.counter rest c.loop-test.true in
    let few : is_wide c.args.k (draw_in rest) ≡ false =
    le-ltb (draw_limit c.args.k) (draw_in rest).count
    (omega (arith, c.if-limit-from.false, c.from.ensures, c.draw_count.ensures, c.draw_limit-limit.ensures)) in
    record {
      size = omega (arith, c.loop.invariant.size, c.loop-test.true, ap length c.next_draw-rest.ensures, length-drop 34 rest);
      left = ap (λ (l : List ℕ). list_any (is_wide c.args.k) (draws_at (c.args.count - (c.loop.counter + 1)) l)) c.next_draw-rest.ensures
          ∙ sym (any_later (is_wide c.args.k) (draw_in rest) _ _ next few) ∙ c.loop.invariant.left;
    }

-- this one does
pub returns-then-limit-from : goal.returns-then-limit-from
returns-then-limit-from c =
    let rest = c.loop.rest.now in
    let next = draws_next c.args.count c.loop.counter rest c.loop-test.true in
    let wide : is_wide c.args.k (draw_in rest) ≡ true =
    lt-ltb (draw_limit c.args.k) (draw_in rest).count
    (omega (arith, c.if-limit-from.true, c.from.ensures, c.draw_count.ensures, c.draw_limit-limit.ensures)) in
    sym (any_here (is_wide c.args.k) (draw_in rest) _ _ next wide) ∙ c.loop.invariant.left

-- none does
pub returns : goal.returns
returns c =
    sym (ap (list_any (is_wide c.args.k)) (draws_none c.args.count c.loop.counter c.loop.rest.now (omega (arith, c.loop-test.false)))) ∙ c.loop.invariant.left
