use Rattle.std.proofs.Common.{◌∙◌, ap}
use Rattle.axis_roots.specs.Claims.{ProofParts}
use Rattle.repair_queue.specs.Verdicts.{fraud}
use Rattle.da_wire.specs.declared.frames.Frame.TheVariants.{Fraud}
use Rattle.da_status.specs.declared.status.Status.TheVariants as status
use Rattle.da_judging.specs.Repair.{GivesVerdict}
use Rattle.da_status.proofs.EndLemmas.{once_within}
use Rattle.da_files.proofs.SpelledLemmas.{writes_frame}
use Rattle.da_judging.proofs.repair.give_proof.Goals as goal

-- what is written is the spelling of the proof's claim
pub returns-in-Ok : goal.returns-in-Ok
returns-in-Ok g c =
    let claim = c.args.proof.now.claim in
    once_within _ (GivesVerdict 0 (fraud claim)) _ _ _ _ _ _
    (λ w s writes.
    writes_frame (Fraud claim) (status.Fraud claim.axis claim.index) _ _ c.deref.result.now c.new-text.ensures.items c.in-Ok.ensures.written c.deref.ensures.value w s
    (writes.0, writes.1 ∙ ap (λ (p : ProofParts). status.Fraud p.claim.axis p.claim.index) c.proof.view_is)) c.put.ensures
