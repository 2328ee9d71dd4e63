use Rattle.std.proofs.Common.{◌≡◌, ap, subst}
use Rattle.std.proofs.lemmas.Result.{IfOk-weaker}
use Rattle.namespace_id.specs.Shares.{AreShares}
use Rattle.square_layout.specs.Blocks.{SquareShares, IsSquare}
use Rattle.axis_roots.proofs.Grids.QuarterLemmas.{square_header}
use Rattle.axis_roots.proofs.square.quarters.header_of_square.Goals as goal

pub returns-clause-header : goal.returns-clause-header
returns-clause-header c =
    let width : c.square.inside.k ≡ c.args.square.now.k = ap (λ (s : SquareShares). s.k) c.square.view_is in
    IfOk-weaker c.header_over.result _ _
    (λ made says. (square_header c.args.square.now c.square.inside.k c.in_ok-leaves.leaves.items c.deref-2.result.now made (subst IsSquare c.square.view_is c.square.invariant)
    (subst (λ (s : SquareShares). AreShares s.shares) c.square.view_is (subst AreShares c.deref.ensures.value c.shares_law.ensures)) width c.deref-2.ensures.value c.in_ok-leaves.ensures.leaves says).0)
    c.header_over.ensures

pub returns-clause-none : goal.returns-clause-none
returns-clause-none c =
    let width : c.square.inside.k ≡ c.args.square.now.k = ap (λ (s : SquareShares). s.k) c.square.view_is in
    IfOk-weaker c.header_over.result _ _
    (λ made says. (square_header c.args.square.now c.square.inside.k c.in_ok-leaves.leaves.items c.deref-2.result.now made (subst IsSquare c.square.view_is c.square.invariant)
    (subst (λ (s : SquareShares). AreShares s.shares) c.square.view_is (subst AreShares c.deref.ensures.value c.shares_law.ensures)) width c.deref-2.ensures.value c.in_ok-leaves.ensures.leaves says).1)
    c.header_over.ensures
