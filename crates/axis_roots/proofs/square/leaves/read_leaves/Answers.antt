use Rattle.std.proofs.Common.{◌∙◌, ℕ, ◌<◌, subst, sym, arith, IsTrue}
use Rattle.namespace_id.specs.declared.cells.Cell.{Cell}
use Rattle.namespace_id.specs.Cells.{is_in_square}
use Rattle.namespace_id.specs.Digests.{no_digest}
use Rattle.axis_roots.specs.Grids.{leaf_over}
use Rattle.axis_roots.proofs.Grids.AxisLemmas.{is_along}
use Rattle.axis_roots.proofs.Grids.LineLemmas.{axis_leaves-cells}
use Rattle.axis_roots.proofs.Grids.RootingLemmas.{read_next}
use Rattle.axis_roots.proofs.Grids.WrittenLemmas.{on_axis_in_square}
use Rattle.axis_roots.proofs.square.leaves.read_leaves.Goals as goal

-- each cell of the axis is in the square, and has a place in the table
pub place-requires-clause-cell : goal.place-requires-clause-cell
place-requires-clause-cell c =
    subst (λ (cell : Cell). IsTrue (is_in_square c.args.k cell)) (sym c.cell_on.ensures)
    (on_axis_in_square c.args.k c.args.axis c.args.index c.loop-pos.pos c.requires.index c.loop-pos-test.true)

pub bounds-leaves-place : goal.bounds-leaves-place
bounds-leaves-place c = subst (λ (n : ℕ). c.place.result < n) (sym c.requires.leaves) c.place.ensures.within

pub loop-pos-preserved : goal.loop-pos-preserved
loop-pos-preserved c = λ shares are.
    read_next c.args.k shares c.args.leaves.now c.loop-pos.line c.args.axis c.args.index c.loop-pos.pos c.place.result c.cell_on.result are
    c.requires.index (omega arith) (omega arith) c.cell_on.ensures c.place.ensures.place (c.loop-pos.invariant shares are)

pub returns : goal.returns
returns c = λ shares are.
    is_along c.args.k (leaf_over c.args.k shares) c.args.axis c.args.index no_digest c.loop-pos.line
    (omega arith) (λ pos h. c.loop-pos.invariant shares are pos (omega arith))
    ∙ sym (axis_leaves-cells c.args.k shares c.args.axis c.args.index)
