use Rattle.std.proofs.Common.{◌∙◌, ap}
use Rattle.data_header.specs.Headers.{Roots}
use Rattle.da_wire.specs.Frames.{frames_of}
use Rattle.da_judging.specs.Light.{GivesLight, Lights}
use Rattle.da_status.proofs.EndLemmas.{once_within}
use Rattle.da_judging.proofs.LightLemmas.{verdict_output, lights_verdict}
use Rattle.da_judging.proofs.light.light.Goals as goal

pub give_verdict-requires : goal.give_verdict-requires
give_verdict-requires g c =
    let width = ap (λ (header : Roots). header.k) c.header.view_is in
    verdict_output c.args.header.now _ _ c.in-Ok-verdict.light (rw width at c.header.invariant.width) c.in-Ok-verdict.ensures

-- the cells that were drawn were planned
pub returns-in-Ok-verdict : goal.returns-in-Ok-verdict
returns-in-Ok-verdict g c =
    let raws = frames_of c.args.messages.now in
    let width = ap (λ (header : Roots). header.k) c.header.view_is in
    once_within (GivesLight c.in-Ok-verdict.light) (Lights c.args.key.now c.args.count c.args.header.now raws) _ _ _ _ _ _
    (lights_verdict c.args.key.now c.args.count c.args.header.now _ raws c.in-Ok-verdict.light
    (λ over. let other = (rw width at c.in-Ok.ensures.too_many).1 over in absurd cc)
    (c.deref.ensures.value ∙ rw width at c.in-Ok.ensures.drawn) c.in-Ok-verdict.ensures) c.give_verdict.ensures
