use Rattle.std.proofs.Common.{◌≡◌, ◌∙◌, ℕ, get_or, sym, ap, arith}
use Rattle.std.specs.List.{remove}
use Rattle.namespace_id.specs.Cells.{cell_numbered}
use Rattle.sampling.specs.Taken.{cells_left}
use Rattle.sampling.proofs.TakenLemmas.{left-at, left-with}
use Rattle.sampling.proofs.DrawLemmas.{place_left}
use Rattle.sampling.proofs.draws.draw.Goals as goal

-- the cell at the place in the rest is the one at the place in the whole list
pub returns-clause-cell : goal.returns-clause-cell
returns-clause-cell c = λ key i at.
    let drawn = place_left c.args.in_row c.from.result c.from-2.result c.len.result c.next_place-place.result i key c.args.taken.now.items c.from.ensures c.from-2.ensures
    (omega (arith, c.len.ensures)) c.next_place-place.ensures.bound (c.next_place-place.ensures.place key i at) in
    c.cell_numbered.ensures.value ∙ ap (cell_numbered c.args.in_row) c.in_ok-number.ensures.place
    ∙ sym (left-at c.args.in_row c.args.taken.now.items c.next_place-place.result (cell_numbered 1 0) drawn.0)
    ∙ ap (λ (p : ℕ). get_or (cells_left c.args.in_row c.args.taken.now.items) p (cell_numbered 1 0)) drawn.1

-- and the others are left
pub returns-clause-rest : goal.returns-clause-rest
returns-clause-rest c = λ key i at.
    let drawn = place_left c.args.in_row c.from.result c.from-2.result c.len.result c.next_place-place.result i key c.args.taken.now.items c.from.ensures c.from-2.ensures
    (omega (arith, c.len.ensures)) c.next_place-place.ensures.bound (c.next_place-place.ensures.place key i at) in
    ap (cells_left c.args.in_row) c.in_ok-number.ensures.taken ∙ left-with c.args.in_row c.args.taken.now.items c.next_place-place.result drawn.0
    ∙ ap (remove (cells_left c.args.in_row c.args.taken.now.items)) drawn.1
