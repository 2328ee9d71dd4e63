use Rattle.std.proofs.Common.{◌∙◌, ℕ, ap}
use Rattle.axis_roots.specs.Grids.{are_ordered_axes}
use Rattle.square_serve.proofs.HeaderLemmas.{own_ordered}
use Rattle.square_serve.proofs.held.Held.of.Goals as goal

pub returns-then-not-has_header-clause-no_header : goal.returns-then-not-has_header-clause-no_header
returns-then-not-has_header-clause-no_header c = λ e. c.has_header.ensures.none c.if-not-has_header.true

-- along the extension of a square that has a header no namespaces fall
pub of-requires : goal.of-requires
of-requires c =
    ap (λ (k : ℕ). are_ordered_axes k c.in_ok-grid.grid.shares) c.in_ok-grid.ensures.k
    ∙ own_ordered c.args.square (c.has_header.ensures.some c.if-not-has_header.false) c.in_ok-grid.grid.shares c.in_ok-grid.ensures.extends
