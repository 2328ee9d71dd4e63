use Rattle.std.proofs.Common.{[], Option, refl, subst, inl, inr}
use Rattle.std.specs.Prelude.{IsNone}
use Rattle.data_header.specs.Headers.{Roots}
use Rattle.axis_roots.specs.Grids.{HasNoHeader}
use Rattle.da_c.proofs.writing.put_header.Goals as goal

-- the square has no header
pub returns-in-Ok-None-clause-leaves : goal.returns-in-Ok-None-clause-leaves
returns-in-Ok-None-clause-leaves c =
    let none : HasNoHeader c.args.square.now =
    subst (λ (o : Option Roots). IsNone o → HasNoHeader c.args.square.now) c.in-Ok-None.field-0-is c.in-Ok-None.ensures.none refl in
    ([], inl (inr (none, (refl, refl))), refl)
