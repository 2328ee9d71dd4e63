use Rattle.std.proofs.Common.{◌≡◌, ◌∙◌, ℕ, List, sym, ap, subst}
use Rattle.std.specs.Prelude.{None}
use Rattle.square_layout.specs.Blocks.{BlockParts}
use Rattle.square_layout.specs.Refusals.{layout_refusal}
use Rattle.sampling.specs.Generated.{number_key, after_units, made_block}
use Rattle.sampling.proofs.LayLemmas.{block_is, made_lays}
use Rattle.sampling.proofs.generating.block.Goals as goal

-- each part is made where the one before it ends
pub returns-clause-value : goal.returns-clause-value
returns-clause-value c =
    let key : List ℕ = c.number_key.result in
    let units = c.in_ok-units.ensures.after key 0 c.words_of-words.ensures in
    let pay_units = c.in_ok-units-2.ensures.after key (after_units c.args.k key 0) units in
    block_is c.args.k key c.in_ok-units.field-0.items c.in_ok-units-2.field-0.items c.in_ok-blobs.field-0.items
    (c.in_ok-units.ensures.value key 0 c.words_of-words.ensures)
    (c.in_ok-units-2.ensures.value key (after_units c.args.k key 0) units)
    (c.in_ok-blobs.ensures key (after_units c.args.k key (after_units c.args.k key 0)) pay_units)
    ∙ ap (made_block c.args.k) c.number_key.ensures

pub returns-clause-lays : goal.returns-clause-lays
returns-clause-lays c =
    subst (λ (block : BlockParts). layout_refusal block ≡ None) (sym (returns-clause-value c))
    (made_lays c.args.k (number_key c.args.number) c.requires.width)
