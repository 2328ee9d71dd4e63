use Rattle.std.proofs.Common.{◌∙◌, ap}
use Rattle.axis_roots.specs.Claims.{ClaimParts}
use Rattle.da_status.specs.declared.status.Status.TheVariants.{Fraud}
use Rattle.da_judging.proofs.light.give_claim.Goals as goal

-- what is written is the spelling of the claim
pub returns : goal.returns
returns g c =
    let status = ap (λ (claim : ClaimParts). Fraud claim.axis claim.index) (c.claim.view_is ∙ c.claim-claim.ensures.value) in
    rw (c.claim_frame.ensures.value, c.into_claim.ensures.value, status) at c.give_with.ensures
