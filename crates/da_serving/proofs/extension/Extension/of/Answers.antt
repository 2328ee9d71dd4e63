use Rattle.std.proofs.Common.{◌≡◌, refl, ap, subst, Err}
use Rattle.std.specs.Prelude.{Option, IfSome, IsNone}
use Rattle.axis_roots.specs.Grids.{IsHeaderOf, HasNoHeader}
use Rattle.axis_roots.specs.Halves.{HeadedSquare}
use Rattle.da_serving.proofs.extension.Extension.of.Goals as goal

-- the left half that is made is that of the square
pub returns-then-requests-le-FEW : goal.returns-then-requests-le-FEW
returns-then-requests-le-FEW c =
    let square = c.args.square in
    let own = subst (λ (o : Option HeadedSquare). IfSome o (λ half. IsHeaderOf half.header square)) c.in-Some.is c.in_ok-half.ensures.header in
    let is = subst (λ (o : Option HeadedSquare). IfSome o (λ half. half.square ≡ square)) c.in-Some.is c.in_ok-half.ensures.square in
    (c.in-Some.half.header, own, (own, (is, refl)))

pub returns-in_default : goal.returns-in_default
returns-in_default c =
    subst (λ (o : Option HeadedSquare). IsNone o → HasNoHeader c.args.square) c.in_default.is c.in_ok-half.ensures.none refl

-- the whole extension is that of the square
pub returns-in-Ok : goal.returns-in-Ok
returns-in-Ok c =
    let held = c.in-Ok.held in
    let own = c.serve_laws.ensures.header held c.args.square c.in-Ok.ensures.held in
    (held.header, own, (own, (c.in-Ok.ensures.held, refl)))

pub returns-in-Err-NoHeader : goal.returns-in-Err-NoHeader
returns-in-Err-NoHeader c = c.in-Err-NoHeader.ensures.no_header (ap Err c.in-Err-NoHeader.field-0-is)
