use Rattle.std.proofs.Common.{◌∙◌, subst}
use Rattle.square_layout.specs.Blocks.{IsSquare}
use Rattle.square_serve.proofs.RowFrontLemmas.{row_extended}
use Rattle.square_serve.proofs.row_trees.extend_row.Goals as goal

-- what the code makes of the row's shares is the row
pub returns-clause-line : goal.returns-clause-line
returns-clause-line c = λ grid extends.
    let whole : IsSquare c.args.square.now = subst IsSquare c.square.view_is c.square.invariant in
    row_extended c.args.square.now.k c.args.room.now c.args.square.now.shares grid c.copy_from_slice.new.self c.extend.new.recovery c.args.row whole.width c.requires.room extends c.requires.row
    (c.copy_from_slice.ensures.after ∙ c.row_of.ensures.shares grid extends) c.extend.ensures.codeword
