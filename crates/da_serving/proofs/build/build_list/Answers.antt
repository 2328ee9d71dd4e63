use Rattle.std.proofs.Common.{◌∙◌, refl, rules, ap, subst}
use Rattle.tx_list.specs.Reads.{list_of}
use Rattle.tx_list.specs.Lists.{square_of_list}
use Rattle.da_wire.specs.declared.frames.Frame.{Frame}
use Rattle.da_wire.specs.declared.frames.Frame.TheVariants.{Square}
use Rattle.da_status.specs.declared.status.Status.TheVariants.{BadList}
use Rattle.da_files.specs.Frames.{Writes}
use Rattle.da_serving.specs.Build.{list_refusal, BuildsList}
use Rattle.da_status.proofs.EndLemmas.{once_within}
use Rattle.da_serving.proofs.BuildLemmas.{written_for}
use Rattle.da_serving.proofs.build.build_list.Goals as goal

-- what is written is the frame of the list's square
pub returns-in-Ok : goal.returns-in-Ok
returns-in-Ok g c =
    let transactions = c.args.transactions.items in
    once_within (Writes c.square_frame.result) (BuildsList transactions) _ _ _ _ _ _
    (λ w s h. written_for BadList (Writes (Square (square_of_list (list_of transactions)))) (list_refusal transactions) c.in-Ok.ensures.first w s
    (subst (λ (f : Frame). Writes f w s) (c.square_frame.ensures.value ∙ ap Square c.in-Ok.ensures.square) h)) c.give.ensures

-- the list is refused for what it is refused for before it is laid out, or then
pub returns-in-Err : goal.returns-in-Err
returns-in-Err g c = record { ends = search rules; late = λ e. refl }
