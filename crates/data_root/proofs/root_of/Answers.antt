use Rattle.std.proofs.Common.{Option, refl, subst}
use Rattle.std.specs.Prelude.{IsNone}
use Rattle.data_header.specs.Headers.{Roots}
use Rattle.axis_roots.specs.Grids.{HasNoHeader}
use Rattle.data_root.proofs.root_of.Goals as goal

-- the square has no header
pub returns-in-Ok-None-clause-none : goal.returns-in-Ok-None-clause-none
returns-in-Ok-None-clause-none c = λ none.
    let law = subst (λ (o : Option Roots). IsNone o → HasNoHeader c.in_ok-square.square) c.in-Ok-None.field-0-is c.in-Ok-None.ensures.none none in
    subst HasNoHeader c.in_ok-square.ensures.square law
