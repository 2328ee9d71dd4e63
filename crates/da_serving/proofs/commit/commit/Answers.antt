use Rattle.std.proofs.Common.{◌∙◌, refl, rules}
use Rattle.square_layout.specs.Refusals.{layout_refusal}
use Rattle.da_status.specs.declared.status.Status.TheVariants.{Done, BadBlock}
use Rattle.da_files.specs.Frames.{WritesText}
use Rattle.da_serving.specs.Commit.{commitment_lines, Commits}
use Rattle.da_status.proofs.EndLemmas.{once_within}
use Rattle.da_serving.proofs.BuildLemmas.{written_for}
use Rattle.da_serving.proofs.commit.commit.Goals as goal

-- what is written are the lines of the block's blobs
pub returns-in-Ok : goal.returns-in-Ok
returns-in-Ok g c =
    let block = c.args.block.now in
    once_within (WritesText Done c.deref.result.now) (Commits block) _ _ _ _ _ _
    (λ w s h. written_for BadBlock (WritesText Done (commitment_lines block.blobs)) (layout_refusal block) c.in-Ok.ensures.first w s
    (h.0 ∙ c.deref.ensures.value ∙ c.in-Ok.ensures.lines, h.1)) c.put.ensures

-- the block is refused for what lay refuses it for
pub returns-in-Err : goal.returns-in-Err
returns-in-Err g c = record { ends = search rules; late = λ e. refl }
