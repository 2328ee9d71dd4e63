use Rattle.std.proofs.Common.{◌≡◌, ◌*◌, ℕ, length, sym, ap, ap₂, subst, arith}
use Rattle.namespace_id.specs.Cells.{all_cells}
use Rattle.sampling.specs.Draws.{drawn_cells}
use Rattle.sampling.specs.Taken.{AscendFrom, cells_left}
use Rattle.sampling.proofs.TakenLemmas.{left-all}
use Rattle.sampling.proofs.DrawLemmas.{draw_start, draw_step, draw_end, drawn_count, drawn_apart, drawn_inside}
use Rattle.sampling.proofs.draws.cells.Goals as goal

pub loop-init : goal.loop-init
loop-init c = record {
  all = draw_start c.args.key.now c.args.count (cells_left (2 * c.args.k) c.in-Ok.taken.items) c.in-Ok-with_capacity.drawn.items (all_cells c.args.k)
      c.in-Ok-with_capacity.ensures.items (left-all c.args.k c.in-Ok.taken.items c.in-Ok.ensures.items);
  words = c.words_of-words.ensures;
  ascend = subst (AscendFrom 0) (sym c.in-Ok.ensures.items) tt;
  count = ap length c.in-Ok.ensures.items;
  enough =
      let square : 4 * c.from.result * c.from-else-count-gt-MAX_DRAWN.result ≡ 4 * c.args.k * c.args.k =
      ap₂ (λ (m n : ℕ). 4 * m * n) c.from.ensures c.from-else-count-gt-MAX_DRAWN.ensures in
      let twice : 4 * c.args.k * c.args.k ≡ 2 * c.args.k * (2 * c.args.k) = omega arith in
      omega (arith, square, twice);
}

pub loop-preserved : goal.loop-preserved
loop-preserved c =
    let i : ℕ = c.loop.counter in record {
      all = draw_step c.args.key.now i c.args.count (cells_left (2 * c.args.k) c.loop.taken.items)
          (cells_left (2 * c.args.k) c.draw.new.taken.items) c.loop.drawn.items c.push.new.self.items
          (drawn_cells c.args.key.now c.args.k c.args.count) c.in-Ok-draw.cell c.loop-test.true c.loop.invariant.all
          (c.in-Ok-draw.ensures.cell c.args.key.now i c.loop.invariant.words)
          (c.in-Ok-draw.ensures.rest c.args.key.now i c.loop.invariant.words) c.in-Ok-push.ensures.items;
      words = c.in-Ok-draw.ensures.words c.args.key.now i c.loop.invariant.words;
      ascend = c.in-Ok-draw.ensures.ascend;
      count = omega (arith, c.in-Ok-draw.ensures.one, c.loop.invariant.count);
      enough = c.loop.invariant.enough;
    }

-- what is drawn, when nothing is left to draw
pub returns-clause-drawn : goal.returns-clause-drawn
returns-clause-drawn c =
    draw_end c.args.key.now c.loop.counter c.args.count (cells_left (2 * c.args.k) c.loop.taken.items) c.loop.drawn.items
    (drawn_cells c.args.key.now c.args.k c.args.count)
    (omega (arith, c.loop-test.false)) c.loop.invariant.all

pub returns-clause-count : goal.returns-clause-count
returns-clause-count c =
    drawn_count c.args.key.now c.args.k c.args.count c.loop.drawn.items (returns-clause-drawn c)

pub returns-clause-apart : goal.returns-clause-apart
returns-clause-apart c =
    drawn_apart c.args.key.now c.args.k c.args.count c.loop.drawn.items (returns-clause-drawn c)
    c.loop.invariant.enough c.cells_laws.ensures.order

pub returns-clause-inside : goal.returns-clause-inside
returns-clause-inside c =
    drawn_inside c.args.key.now c.args.k c.args.count c.loop.drawn.items (returns-clause-drawn c) c.loop.invariant.enough
    (c.cells_laws.ensures.all c.args.k c.requires.width)
