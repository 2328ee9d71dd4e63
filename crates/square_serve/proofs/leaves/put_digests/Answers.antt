use Rattle.std.proofs.Common.{◌∙◌, ap, get_or, subst, sym, arith, IsTrue}
use Rattle.namespace_id.specs.declared.cells.Cell.{Cell}
use Rattle.namespace_id.specs.Cells.{is_in_square}
use Rattle.namespace_id.specs.Digests.{no_digest}
use Rattle.axis_roots.specs.Grids.{leaf_over}
use Rattle.axis_roots.proofs.Grids.WrittenLemmas.{on_axis_in_square}
use Rattle.square_serve.proofs.NeededLemmas.{leaf_put}
use Rattle.square_serve.proofs.leaves.put_digests.Goals as goal

-- one more leaf that was hashed
pub loop-i-preserved : goal.loop-i-preserved
loop-i-preserved c =
    let k = c.args.grid.now.k in
    let i = c.loop-i.i in
    leaf_put k c.args.grid.now.shares c.loop-i.leaves c.place.result c.cell_on-cell.result (get_or c.args.digests.now i no_digest)
    (subst (λ (cell : Cell). IsTrue (is_in_square k cell)) (sym c.cell_on-cell.ensures)
    (on_axis_in_square k c.args.axis c.args.index (get_or c.args.positions.now i 0) c.requires.index (c.requires.positions i (omega arith))))
    c.place.ensures.place
    (c.requires.digests i (omega arith) ∙ ap (leaf_over k c.args.grid.now.shares) (sym c.cell_on-cell.ensures))
    c.loop-i.invariant
