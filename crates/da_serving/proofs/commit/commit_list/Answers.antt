use Rattle.std.proofs.Common.{◌∙◌, refl, rules}
use Rattle.da_status.specs.declared.status.Status.TheVariants.{Done, BadList}
use Rattle.da_files.specs.Frames.{WritesText}
use Rattle.da_serving.specs.Build.{list_refusal}
use Rattle.da_serving.specs.Commit.{list_lines, CommitsList}
use Rattle.da_status.proofs.EndLemmas.{once_within}
use Rattle.da_serving.proofs.BuildLemmas.{written_for}
use Rattle.da_serving.proofs.commit.commit_list.Goals as goal

-- what is written are the lines of the list's blobs
pub returns-in-Ok : goal.returns-in-Ok
returns-in-Ok g c =
    let transactions = c.args.transactions.items in
    once_within (WritesText Done c.deref.result.now) (CommitsList transactions) _ _ _ _ _ _
    (λ w s h. written_for BadList (WritesText Done (list_lines transactions)) (list_refusal transactions) c.in-Ok.ensures.first w s
    (h.0 ∙ c.deref.ensures.value ∙ c.in-Ok.ensures.lines, h.1)) c.put.ensures

-- the list is refused for what it is refused for before it is laid out, or then
pub returns-in-Err : goal.returns-in-Err
returns-in-Err g c = record { ends = search rules; late = λ e. refl }
