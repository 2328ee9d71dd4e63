use Rattle.std.proofs.Common.{◌≡◌, ◌∙◌, length, ap, arith}
use Rattle.square_layout.specs.Blocks.{BlockParts}
use Rattle.sampling.specs.Generated.{drawn_block}
use Rattle.da_demo.proofs.TrialLemmas.{few_blobs}
use Rattle.da_demo.proofs.trials.trial.Goals as goal

-- there are few blobs
pub overflow_cast-result : goal.overflow_cast-result
overflow_cast-result c =
    let blobs : length c.block-2.inside.blobs.items ≡ length (drawn_block c.args.number c.args.k).blobs
    = ap (λ (block : BlockParts). length block.blobs) (c.block-2.view_is ∙ c.in_ok-block.ensures.value) in
    omega (arith, c.len.ensures, blobs, few_blobs c.args.number c.args.k c.requires.width)
