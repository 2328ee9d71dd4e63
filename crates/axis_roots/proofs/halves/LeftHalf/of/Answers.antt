use Rattle.std.proofs.Common.{◌≡◌, ◌∙◌, ◌*◌, ℕ, sym, ap, subst}
use Rattle.std.specs.Prelude.{Option, IfSome, IsNone}
use Rattle.namespace_id.specs.Shares.{AreShares}
use Rattle.data_header.specs.Headers.{Roots}
use Rattle.square_layout.specs.Blocks.{SquareShares, IsSquare}
use Rattle.axis_roots.specs.Grids.{IsHeaderOf}
use Rattle.axis_roots.proofs.Grids.QuarterLemmas.{square_header}
use Rattle.axis_roots.proofs.halves.LeftHalf.of.Goals as goal

-- the square has no header where there is none over the leaves
pub returns-in_default-clause-none : goal.returns-in_default-clause-none
returns-in_default-clause-none c = λ none.
    let width : c.square.inside.k ≡ c.args.square.k = ap (λ (s : SquareShares). s.k) c.square.view_is in
    (square_header c.args.square c.square.inside.k c.in_ok-quarter.leaves.items c.deref-2.result.now c.in_ok-header.field-0
    (subst IsSquare c.square.view_is c.square.invariant)
    (subst (λ (s : SquareShares). AreShares s.shares) c.square.view_is (subst AreShares c.deref.ensures.value c.shares_law.ensures))
    width c.deref-2.ensures.value c.in_ok-quarter.ensures.leaves c.in_ok-header.ensures).1
    (subst (λ (o : Option Roots). IsNone o) (sym c.in_default.is) none)

-- what is kept is of the square
pub invariant_of-result : goal.invariant_of-result
invariant_of-result c =
    let width : c.square.inside.k ≡ c.args.square.k = ap (λ (s : SquareShares). s.k) c.square.view_is in
    let own : IsHeaderOf c.in-Some.header c.args.square =
    subst (λ (o : Option Roots). IfSome o (λ header. IsHeaderOf header c.args.square)) c.in-Some.is
    (square_header c.args.square c.square.inside.k c.in_ok-quarter.leaves.items c.deref-2.result.now c.in_ok-header.field-0
    (subst IsSquare c.square.view_is c.square.invariant)
    (subst (λ (s : SquareShares). AreShares s.shares) c.square.view_is (subst AreShares c.deref.ensures.value c.shares_law.ensures))
    width c.deref-2.ensures.value c.in_ok-quarter.ensures.leaves c.in_ok-header.ensures).0 in
    record {
      own = own;
      kept = record {
        lower = c.in_ok-quarter.ensures.quarter;
        width = c.in_ok-room.ensures ∙ width;
        count = c.in_ok-tree.ensures.count ∙ ap (λ (n : ℕ). 2 * n) width;
      };
      digests = c.in_ok-quarter.ensures.leaves own.grid own.extends;
    }

-- and the header is the square's
pub returns-clause-header : goal.returns-clause-header
returns-clause-header c =
    let width : c.square.inside.k ≡ c.args.square.k = ap (λ (s : SquareShares). s.k) c.square.view_is in
    subst (λ (o : Option Roots). IfSome o (λ header. IsHeaderOf header c.args.square)) c.in-Some.is
    (square_header c.args.square c.square.inside.k c.in_ok-quarter.leaves.items c.deref-2.result.now c.in_ok-header.field-0
    (subst IsSquare c.square.view_is c.square.invariant)
    (subst (λ (s : SquareShares). AreShares s.shares) c.square.view_is (subst AreShares c.deref.ensures.value c.shares_law.ensures))
    width c.deref-2.ensures.value c.in_ok-quarter.ensures.leaves c.in_ok-header.ensures).0
