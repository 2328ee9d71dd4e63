use Rattle.std.proofs.Common.{◌∙◌, sym, ap, subst}
use Rattle.namespace_id.specs.Cells.{CellList}
use Rattle.light_node.specs.declared.events.Light.{Light}
use Rattle.da_status.specs.declared.status.Status.TheVariants.{Done}
use Rattle.da_status.proofs.EndLemmas.{once_within}
use Rattle.da_files.specs.Frames.{WritesText}
use Rattle.da_serving.specs.Wanted.{requests_bytes}
use Rattle.da_commands.specs.Cells.{Asks}
use Rattle.da_commands.proofs.cells.ask.Goals as goal

-- what is written are the requests for the cells that are waited for
pub returns-in-Waiting : goal.returns-in-Waiting
returns-in-Waiting g c =
    let axis = c.args.axis in
    let list = c.deref.ensures.value ∙ ap (λ (cells : CellList). cells.list) c.cells.view_is in
    once_within (WritesText Done (requests_bytes axis c.deref.result.now)) (Asks axis c.args.light) _ _ _ _ _ _
    (λ w s h. subst (λ (verdict : Light). Asks axis verdict w s) (sym c.in-Waiting.is) (h.0 ∙ ap (requests_bytes axis) list, h.1))
    c.give_requests.ensures
