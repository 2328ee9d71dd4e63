use Rattle.std.proofs.Common.{◌∙◌, ap, subst}
use Rattle.square_layout.specs.Blocks.{SquareShares, IsSquare}
use Rattle.square_serve.proofs.RowFrontLemmas.{square_cut, length-square_cut}
use Rattle.square_serve.proofs.rows.row_of.Goals as goal

pub returns-clause-count : goal.returns-clause-count
returns-clause-count c =
    let whole : IsSquare c.args.square.now = subst IsSquare c.square.view_is c.square.invariant in
    length-square_cut c.args.square.now.k c.square.inside.k c.args.square.now.shares c.deref.result.now c.args.row
    (ap (λ (s : SquareShares). s.k) c.square.view_is) (c.deref.ensures.value ∙ ap (λ (s : SquareShares). s.shares) c.square.view_is) whole.count c.requires

pub returns-clause-shares : goal.returns-clause-shares
returns-clause-shares c = λ grid extends.
    let whole : IsSquare c.args.square.now = subst IsSquare c.square.view_is c.square.invariant in
    square_cut c.args.square.now.k c.square.inside.k c.args.square.now.shares c.deref.result.now grid c.args.row
    (ap (λ (s : SquareShares). s.k) c.square.view_is) (c.deref.ensures.value ∙ ap (λ (s : SquareShares). s.shares) c.square.view_is) whole.count extends c.requires
