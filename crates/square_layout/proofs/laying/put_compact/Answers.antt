use Rattle.std.proofs.Common.{◌≡◌, ◌∙◌, ap, arith}
use Rattle.share_split.specs.Units.{unit_share_count}
use Rattle.square_layout.specs.Blocks.{BlockParts}
use Rattle.square_layout.specs.Refusals.{max_shares}
use Rattle.square_layout.proofs.LaidLemmas.{compact_fits}
use Rattle.square_layout.proofs.laying.put_compact.Goals as goal

pub put_units-requires : goal.put_units-requires
put_units-requires c =
    let same : unit_share_count c.deref.result.now ≡ unit_share_count c.args.block.now.units =
    ap unit_share_count (c.deref.ensures.value ∙ ap (λ (b : BlockParts). b.units) c.block.view_is) in
    omega (arith, same, compact_fits c.args.block.now max_shares c.requires)

pub put_units-requires-2 : goal.put_units-requires-2
put_units-requires-2 c =
    let same : unit_share_count c.deref-2.result.now ≡ unit_share_count c.args.block.now.pay_units =
    ap unit_share_count (c.deref-2.ensures.value ∙ ap (λ (b : BlockParts). b.pay_units) c.block.view_is) in
    omega (arith, same, compact_fits c.args.block.now max_shares c.requires)
