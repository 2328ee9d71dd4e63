use Rattle.std.proofs.Common.{◌∙◌, length, ap}
use Rattle.namespace_id.specs.Cells.{CellList}
use Rattle.da_judging.proofs.light.give_waiting.Goals as goal

-- what is written is the spelling of the cells, with their count
pub returns : goal.returns
returns g c =
    let count = c.len.ensures ∙ c.cells.inside.list.ok.0 ∙ ap (λ (cells : CellList). length cells.list) c.cells.view_is in
    rw (c.missing_frame.ensures.value, count) at c.give_with.ensures
