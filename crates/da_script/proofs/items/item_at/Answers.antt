use Rattle.std.proofs.Common.{◌∙◌, sym}
use Rattle.std.proofs.lemmas.Option.{slice_get-get_or}
use Rattle.da_script.proofs.ItemLemmas.{item_there, item_some}
use Rattle.da_script.proofs.items.item_at.Goals as goal

pub unreachable-requires : goal.unreachable-requires
unreachable-requires c =
    item_some c.args.frames.now c.requires.items.0 c.requires.items.1 c.args.place _ (slice_get-get_or c.args.frames.now c.args.place _ c.requires.place)
    (sym c.in_ok-item.ensures ∙ c.in-None.is)

pub returns : goal.returns
returns c = λ items are.
    item_there c.args.frames.now items are c.args.place _ (slice_get-get_or c.args.frames.now c.args.place _ c.requires.place)
    ∙ sym c.in_ok-item.ensures ∙ c.in-Some.is
