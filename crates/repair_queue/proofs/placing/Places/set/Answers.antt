use Rattle.std.proofs.Common.{◌≡◌, true, sym, subst, set}
use Rattle.namespace_id.specs.Cells.{is_in_square}
use Rattle.repair_queue.specs.Places.{PlaceParts, places_in, cell_place, IsPlaced}
use Rattle.repair_queue.proofs.Places.PoolLemmas.{row_placed, col_placed}
use Rattle.repair_queue.proofs.placing.Places.set.Goals as goal

-- the cell is in the square
pub number-at-requires-clause-cell : goal.number-at-requires-clause-cell
number-at-requires-clause-cell c = subst (λ (p : PlaceParts). is_in_square p.k c.args.cell ≡ true) (sym c.self.view_is) c.requires.cell

-- the place along the row is set
pub returns-in-Row-clause-placed : goal.returns-in-Row-clause-placed
returns-in-Row-clause-placed c =
    subst (λ (p : PlaceParts). IsPlaced (cell_place p) (places_in c.self.inside.k (set c.self.inside.rows.items c.number-at.result c.args.place) c.self.inside.cols.items)
    c.args.axis c.args.cell c.args.place) c.self.view_is
    (row_placed c.self.inside.k c.self.inside.rows.items c.self.inside.cols.items c.args.axis c.args.cell c.number-at.result c.args.place
    (subst (λ (p : PlaceParts). is_in_square p.k c.args.cell ≡ true) (sym c.self.view_is) c.requires.cell) c.number-at.ensures.value c.self.invariant.row_count c.in-Row.is)

-- or that along the column
pub returns-in-Col-clause-placed : goal.returns-in-Col-clause-placed
returns-in-Col-clause-placed c =
    subst (λ (p : PlaceParts). IsPlaced (cell_place p) (places_in c.self.inside.k c.self.inside.rows.items (set c.self.inside.cols.items c.number-at.result c.args.place))
    c.args.axis c.args.cell c.args.place) c.self.view_is
    (col_placed c.self.inside.k c.self.inside.rows.items c.self.inside.cols.items c.args.axis c.args.cell c.number-at.result c.args.place
    (subst (λ (p : PlaceParts). is_in_square p.k c.args.cell ≡ true) (sym c.self.view_is) c.requires.cell) c.number-at.ensures.value c.self.invariant.col_count c.in-Col.is)
