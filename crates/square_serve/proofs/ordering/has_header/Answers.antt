use Rattle.std.proofs.Common.{◌∙◌, sym, ap, subst}
use Rattle.namespace_id.specs.Shares.{AreShares}
use Rattle.square_layout.specs.Blocks.{SquareShares, IsSquare}
use Rattle.square_serve.proofs.HeaderLemmas.{has_header, has_none}
use Rattle.square_serve.proofs.ordering.has_header.Goals as goal

pub returns-clause-some : goal.returns-clause-some
returns-clause-some c = λ e.
    let whole : IsSquare c.args.square.now = subst IsSquare c.square.view_is c.square.invariant in
    let are : AreShares c.args.square.now.shares = subst AreShares (c.deref.ensures.value ∙ ap (λ (s : SquareShares). s.shares) c.square.view_is) c.shares_law.ensures in
    let found = c.grid_laws.ensures.extension c.args.square.now whole are in
    has_header c.args.square.now found.0 whole found.1 (sym (c.are_ordered_axes.ensures found.0 found.1) ∙ e)

pub returns-clause-none : goal.returns-clause-none
returns-clause-none c = λ e.
    let whole : IsSquare c.args.square.now = subst IsSquare c.square.view_is c.square.invariant in
    let are : AreShares c.args.square.now.shares = subst AreShares (c.deref.ensures.value ∙ ap (λ (s : SquareShares). s.shares) c.square.view_is) c.shares_law.ensures in
    let found = c.grid_laws.ensures.extension c.args.square.now whole are in
    has_none c.args.square.now found.0 found.1 (sym (c.are_ordered_axes.ensures found.0 found.1) ∙ e)
