use Rattle.std.proofs.Common.{◌≡◌, true, sym, subst}
use Rattle.namespace_id.specs.Cells.{is_in_square}
use Rattle.repair_queue.specs.Places.{PlaceParts, cell_place}
use Rattle.repair_queue.proofs.Places.PoolLemmas.{place_read, row_place, col_place}
use Rattle.repair_queue.proofs.placing.Places.at.Goals as goal

-- the cell is in the square
pub number-at-requires-clause-cell : goal.number-at-requires-clause-cell
number-at-requires-clause-cell c = subst (λ (p : PlaceParts). is_in_square p.k c.args.cell ≡ true) (sym c.self.view_is) c.requires.cell

-- the place along the row
pub returns-in-Row : goal.returns-in-Row
returns-in-Row c =
    let within = subst (λ (p : PlaceParts). is_in_square p.k c.args.cell ≡ true) (sym c.self.view_is) c.requires.cell in
    subst (λ (p : PlaceParts). c.index.result.now ≡ cell_place p c.args.axis c.args.cell) c.self.view_is
    (row_place c.self.inside.k c.self.inside.rows.items c.self.inside.cols.items c.args.axis c.args.cell c.index.result.now c.in-Row.is
    (place_read c.self.inside.k c.self.inside.rows.items c.args.cell c.number-at.result c.index.result.now within c.self.invariant.row_count c.number-at.ensures.value
    c.index.ensures))

-- or the column
pub returns-in-Col : goal.returns-in-Col
returns-in-Col c =
    let within = subst (λ (p : PlaceParts). is_in_square p.k c.args.cell ≡ true) (sym c.self.view_is) c.requires.cell in
    subst (λ (p : PlaceParts). c.index-in-Col.result.now ≡ cell_place p c.args.axis c.args.cell) c.self.view_is
    (col_place c.self.inside.k c.self.inside.rows.items c.self.inside.cols.items c.args.axis c.args.cell c.index-in-Col.result.now c.in-Col.is
    (place_read c.self.inside.k c.self.inside.cols.items c.args.cell c.number-at.result c.index-in-Col.result.now within c.self.invariant.col_count
    c.number-at.ensures.value c.index-in-Col.ensures))
