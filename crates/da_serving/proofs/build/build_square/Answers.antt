use Rattle.std.proofs.Common.{◌∙◌, refl, rules, ap, subst}
use Rattle.square_layout.specs.Layout.{block_square}
use Rattle.square_layout.specs.Refusals.{layout_refusal}
use Rattle.da_wire.specs.declared.frames.Frame.{Frame}
use Rattle.da_wire.specs.declared.frames.Frame.TheVariants.{Square}
use Rattle.da_status.specs.declared.status.Status.TheVariants.{BadBlock}
use Rattle.da_files.specs.Frames.{Writes}
use Rattle.da_serving.specs.Build.{Builds}
use Rattle.da_status.proofs.EndLemmas.{once_within}
use Rattle.da_serving.proofs.BuildLemmas.{written_for}
use Rattle.da_serving.proofs.build.build_square.Goals as goal

-- what is written is the frame of the block's square
pub returns-in-Ok : goal.returns-in-Ok
returns-in-Ok g c =
    let block = c.args.block.now in
    once_within (Writes c.square_frame.result) (Builds block) _ _ _ _ _ _
    (λ w s h. written_for BadBlock (Writes (Square (block_square block))) (layout_refusal block) c.in-Ok.ensures.first w s
    (subst (λ (f : Frame). Writes f w s) (c.square_frame.ensures.value ∙ ap Square c.in-Ok.ensures.square) h)) c.give.ensures

-- the block is refused for what lay refuses it for
pub returns-in-Err : goal.returns-in-Err
returns-in-Err g c = record { ends = search rules; late = λ e. refl }
