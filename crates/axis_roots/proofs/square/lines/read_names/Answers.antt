use Rattle.std.proofs.Common.{◌*◌, ◌∙◌, ℕ, ◌<◌, subst, sym, arith, IsTrue}
use Rattle.namespace_id.specs.declared.cells.Cell.{Cell}
use Rattle.namespace_id.specs.Names.{parity}
use Rattle.namespace_id.specs.Cells.{is_width, is_in_square, leaf_namespace}
use Rattle.axis_roots.specs.Grids.{share_at}
use Rattle.axis_roots.proofs.Grids.AxisLemmas.{is_along}
use Rattle.axis_roots.proofs.Grids.LineLemmas.{axis_names-cells}
use Rattle.axis_roots.proofs.Grids.WrittenLemmas.{on_axis_in_square}
use Rattle.axis_roots.proofs.square.lines.read_names.Goals as goal

-- each cell of the axis is in the square
pub cell-requires : goal.cell-requires
cell-requires c =
    subst (λ (cell : Cell). IsTrue (is_in_square c.args.grid.now.k cell)) (sym c.cell_on-cell.ensures)
    (on_axis_in_square c.args.grid.now.k c.args.axis c.args.index c.loop-pos.pos c.requires.index
    (subst (λ (k : ℕ). c.loop-pos.pos < 2 * k) c.width-k.ensures.value c.loop-pos-test.true))

-- whose width is the one that was told
pub leaf_namespace-requires-clause-width : goal.leaf_namespace-requires-clause-width
leaf_namespace-requires-clause-width c =
    subst (λ (k : ℕ). IsTrue (is_width k)) (sym c.width-k.ensures.value) c.width-k.ensures.grid.width

pub leaf_namespace-requires-clause-cell : goal.leaf_namespace-requires-clause-cell
leaf_namespace-requires-clause-cell c =
    subst (λ (cell : Cell). IsTrue (is_in_square c.width-k.result cell)) (sym c.cell_on-cell.ensures)
    (on_axis_in_square c.width-k.result c.args.axis c.args.index c.loop-pos.pos
    (subst (λ (k : ℕ). c.args.index < 2 * k) (sym c.width-k.ensures.value) c.requires.index) c.loop-pos-test.true)

pub returns : goal.returns
returns c =
    is_along c.args.grid.now.k (λ cell. leaf_namespace c.args.grid.now.k cell (share_at (2 * c.args.grid.now.k) c.args.grid.now.shares cell)) c.args.axis c.args.index parity
    c.loop-pos.line (omega arith) (λ pos h. c.loop-pos.invariant pos (omega arith))
    ∙ sym (axis_names-cells c.args.grid.now.k c.args.grid.now.shares c.args.axis c.args.index)
