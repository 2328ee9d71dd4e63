use Rattle.std.proofs.Common.{◌≡◌, sym, refl, ap, arith}
use Rattle.square_layout.specs.Blocks.{SquareShares}
use Rattle.square_serve.proofs.OrderingLemmas.{name_read, order_fails, order_on, order_end}
use Rattle.square_serve.proofs.ordering.is_ordered_axis.Goals as goal

pub loop-pos-init : goal.loop-pos-init
loop-pos-init c = λ grid extends. record {
  last_is = name_read c.args.square.now.k grid c.args.axis c.args.index 0 c.cell_on.result c.name_over-last.result
      (omega (arith, c.requires)) c.cell_on.ensures (c.name_over-last.ensures grid extends);
  rest = refl;
}

pub returns-then-not-is_at_most : goal.returns-then-not-is_at_most
returns-then-not-is_at_most c = λ grid extends.
    let width : c.square.inside.k ≡ c.args.square.now.k = ap (λ (s : SquareShares). s.k) c.square.view_is in
    order_fails c.args.square.now.k grid c.args.axis c.args.index c.loop-pos.pos c.loop-pos.last c.name_over-name.result
    c.loop-pos.auto.pos (omega (arith, width))
    (name_read c.args.square.now.k grid c.args.axis c.args.index c.loop-pos.pos c.cell_on-in-loop-pos.result c.name_over-name.result
    (omega (arith, width)) c.cell_on-in-loop-pos.ensures (c.name_over-name.ensures grid extends))
    (sym c.if-not-is_at_most.ensures) (c.loop-pos.invariant grid extends)

pub loop-pos-preserved : goal.loop-pos-preserved
loop-pos-preserved c = λ grid extends.
    let width : c.square.inside.k ≡ c.args.square.now.k = ap (λ (s : SquareShares). s.k) c.square.view_is in
    order_on c.args.square.now.k grid c.args.axis c.args.index c.loop-pos.pos c.loop-pos.last c.name_over-name.result
    c.loop-pos.auto.pos (omega (arith, width))
    (name_read c.args.square.now.k grid c.args.axis c.args.index c.loop-pos.pos c.cell_on-in-loop-pos.result c.name_over-name.result
    (omega (arith, width)) c.cell_on-in-loop-pos.ensures (c.name_over-name.ensures grid extends))
    (sym c.if-not-is_at_most.ensures) (c.loop-pos.invariant grid extends)

pub returns : goal.returns
returns c = λ grid extends.
    let width : c.square.inside.k ≡ c.args.square.now.k = ap (λ (s : SquareShares). s.k) c.square.view_is in
    order_end c.args.square.now.k grid c.args.axis c.args.index c.loop-pos.pos c.loop-pos.last (omega (arith, width)) (c.loop-pos.invariant grid extends)
