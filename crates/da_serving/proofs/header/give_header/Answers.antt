use Rattle.std.proofs.Common.{Option, refl, subst, inr}
use Rattle.std.specs.Prelude.{IfSome, IsNone}
use Rattle.data_header.specs.Headers.{Roots}
use Rattle.axis_roots.specs.Grids.{IsHeaderOf, HasNoHeader}
use Rattle.da_files.specs.Frames.{Writes}
use Rattle.da_serving.specs.Header.{Heads}
use Rattle.da_status.proofs.EndLemmas.{once_within, once_request}
use Rattle.da_serving.proofs.HeaderLemmas.{heads_header}
use Rattle.da_serving.proofs.header.give_header.Goals as goal

-- what is written is the frame of the square's header
pub returns-in-Ok-Some : goal.returns-in-Ok-Some
returns-in-Ok-Some g c =
    let own : IsHeaderOf c.in-Ok-Some.header c.args.square.now =
    subst (λ (o : Option Roots). IfSome o (λ header. IsHeaderOf header c.args.square.now)) c.in-Ok-Some.field-0-is c.in-Ok-Some.ensures.header in
    once_within (Writes c.header_frame.result) (Heads c.args.square.now) _ _ _ _ _ _
    (heads_header c.args.square.now c.in-Ok-Some.header c.header_frame.result own c.header_frame.ensures.value) c.give.ensures

-- the square has none
pub returns-in-Ok-None : goal.returns-in-Ok-None
returns-in-Ok-None g c =
    let none : HasNoHeader c.args.square.now =
    subst (λ (o : Option Roots). IsNone o → HasNoHeader c.args.square.now) c.in-Ok-None.field-0-is c.in-Ok-None.ensures.none refl in
    once_request (Heads c.args.square.now) _ _ _ _ refl (inr (none, (refl, refl))) refl
