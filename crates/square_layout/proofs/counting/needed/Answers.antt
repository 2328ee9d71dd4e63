use Rattle.std.proofs.Common.{◌∙◌, List, ℕ, min, ap}
use Rattle.share_split.specs.Units.{unit_share_count}
use Rattle.square_layout.specs.Blocks.{BlockParts}
use Rattle.square_layout.specs.Refusals.{most_named}
use Rattle.square_layout.proofs.SizeLemmas.{needed_told}
use Rattle.square_layout.proofs.counting.needed.Goals as goal

pub returns : goal.returns
returns c =
    let told : List (List ℕ) → ℕ = λ units. min (unit_share_count units) most_named in
    c.max.ensures
    ∙ needed_told (unit_share_count c.args.block.now.units) (unit_share_count c.args.block.now.pay_units) c.unit_share_count-units.result
    c.unit_share_count.result c.saturating_add-compact.result c.end_of.result _ _
    (c.unit_share_count-units.ensures ∙ ap told c.deref.ensures.value ∙ ap (λ (b : BlockParts). told b.units) c.block.view_is)
    (c.unit_share_count.ensures ∙ ap told c.deref-2.ensures.value ∙ ap (λ (b : BlockParts). told b.pay_units) c.block.view_is)
    c.saturating_add-compact.ensures c.end_of.ensures c.requires.order
