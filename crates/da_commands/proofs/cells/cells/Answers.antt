use Rattle.std.proofs.Common.{◌∙◌, ap}
use Rattle.data_header.specs.Headers.{Roots}
use Rattle.da_status.proofs.EndLemmas.{once_within}
use Rattle.da_commands.specs.Cells.{Asks, AsksFirst}
use Rattle.da_commands.proofs.Answering.CellsLemmas.{no_events, no_claim, asks_verdict}
use Rattle.da_commands.proofs.cells.cells.Goals as goal

pub ask-requires : goal.ask-requires
ask-requires g c = no_claim c.args.header.now _ c.in-Ok-verdict.light (rw no_events at c.in-Ok-verdict.ensures)

-- the cells that were drawn were planned
pub returns-in-Ok-verdict : goal.returns-in-Ok-verdict
returns-in-Ok-verdict g c =
    let axis = c.args.axis in
    let width = ap (λ (header : Roots). header.k) c.header.view_is in
    once_within (Asks axis c.in-Ok-verdict.light) (AsksFirst axis c.args.key.now c.args.count c.args.header.now) _ _ _ _ _ _
    (asks_verdict axis c.args.key.now c.args.count c.args.header.now _ c.in-Ok-verdict.light
    (λ over. let other = (rw width at c.in-Ok.ensures.too_many).1 over in absurd cc)
    (c.deref.ensures.value ∙ rw width at c.in-Ok.ensures.drawn) (rw no_events at c.in-Ok-verdict.ensures)) c.ask.ensures
