use Rattle.std.proofs.Common.{◌∙◌, sym}
use Rattle.frame_payloads.proofs.Forms.CellLoops.{cells_on, cells_fail}
use Rattle.frame_payloads.proofs.kinds.missing.are_cells.Goals as goal

pub returns-then-not-is_in_square : goal.returns-then-not-is_in_square
returns-then-not-is_in_square c =
    cells_fail c.args.k c.args.count c.cell_of-first.result c.args.bytes.now c.requires.some (sym c.is_width.ensures ∙ c.if-not-is_width.false)
    c.cell_of-first.ensures.row c.cell_of-first.ensures.col (sym c.is_in_square.ensures ∙ c.if-not-is_in_square.true)

pub returns : goal.returns
returns c =
    c.are_next.ensures
    ∙ cells_on c.args.k c.args.count c.cell_of-first.result c.args.bytes.now c.split_at.result.1.now c.requires.some (sym c.is_width.ensures ∙ c.if-not-is_width.false)
    c.cell_of-first.ensures.row c.cell_of-first.ensures.col (sym c.is_in_square.ensures ∙ c.if-not-is_in_square.false) c.split_at.ensures.back
