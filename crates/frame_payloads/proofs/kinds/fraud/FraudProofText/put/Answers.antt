use Rattle.std.proofs.Common.{◌∙◌, map, ap}
use Rattle.axis_roots.specs.Claims.{ProofParts}
use Rattle.axis_roots.specs.Proved.{kept_message}
use Rattle.frame_payloads.proofs.Forms.FraudSizes.{proof_text}
use Rattle.frame_payloads.proofs.kinds.fraud.FraudProofText.put.Goals as goal

-- its certificates keep the cells of its claim
pub returns : goal.returns
returns g c =
    rw (proof_text c.args.self.now.claim c.self.inside.axis c.self.inside.index c.deref.result.now c.proof_law.ensures.plain
    (ap (λ (proof : ProofParts). proof.claim.axis) c.self.view_is) (ap (λ (proof : ProofParts). proof.claim.index) c.self.view_is)
    (ap (map kept_message) c.deref.ensures.value ∙ ap (λ (proof : ProofParts). proof.claim.cells) c.self.view_is)) c.put_plain.ensures
